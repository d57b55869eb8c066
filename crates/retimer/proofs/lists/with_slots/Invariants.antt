-- `lists::with_slots` meets its contract. The loop's invariant: i of the requests stand after the first n slots.
-- Assumes nothing.
use mathlib.Core.Path.{◌≡◌}
use mathlib.Core.List.{map, ◌++◌}
use Prim.Native.Nat.{◌+◌}
use lib.ListN.{length, take}
use Rattle.enforcement.specs.Limits.{max_count, max_scheduled}
use Rattle.enforcement.specs.History.{place}
use Rattle.retimer.specs.View.{request_of, slot_of}
use Rattle.retimer.proofs.lists.with_slots.Given as goal

abbrev pub invariant-loop-i : goal.invariant-loop-i
invariant-loop-i l = (length l.slots ≡ max_scheduled) × ((map slot_of (take (l.n + l.i) l.slots) ≡ map slot_of (take l.n l.initial.slots) ++ place (map request_of (take l.i l.requests)) (take l.i l.ds)) × ((length l.requests ≡ max_count) × (length l.ds ≡ max_count + 1)))
