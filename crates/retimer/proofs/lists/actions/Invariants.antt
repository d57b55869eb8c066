-- `lists::actions` meets its contract. The loop's invariant: the actions of the first i requests are copied.
-- Assumes nothing.
use mathlib.Core.Path.{◌≡◌}
use mathlib.Core.List.{map}
use Prim.Native.Nat.{◌+◌}
use lib.ListN.{length, take}
use Rattle.enforcement.specs.Limits.{max_count}
use Rattle.enforcement.specs.History.{actions_of}
use Rattle.retimer.specs.View.{request_of}
use Rattle.retimer.proofs.lists.actions.Given as goal

abbrev pub invariant-loop-i : goal.invariant-loop-i
invariant-loop-i l = (length l.r ≡ max_count + 1) × ((take l.i l.r ≡ actions_of (map request_of (take l.i l.requests))) × (length l.requests ≡ max_count))
