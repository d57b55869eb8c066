-- `script::bytes_of` meets its contract: the bytes put and those that are left are the text's.
-- Assumes nothing.
use mathlib.Core.Path.{◌≡◌}
use Prim.Native.Nat.{◌-◌, ◌≤◌}
use lib.ListN.{length}
use Rattle.drafting.specs.Scripts.{bytes_from}
use Rattle.drafting.proofs.Filling.{Filling}
use Rattle.drafting.proofs.script.bytes_of.Given as goal

abbrev pub invariant-loop-i : goal.invariant-loop-i
invariant-loop-i l = (l.n ≤ length l.out) × ((length l.out ≡ length l.initial.out) × (Filling l.initial.out 0 (bytes_from (length l.initial.out) l.text l.initial.i) (bytes_from (length l.initial.out - l.n) l.text l.i) l.out l.n))

abbrev pub decreases-loop-i : goal.decreases-loop-i
decreases-loop-i l = length l.initial.out - l.n
