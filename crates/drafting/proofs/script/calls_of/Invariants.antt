-- `script::calls_of` meets its contract: the calls put and those that are left are the text's.
-- Assumes nothing.
use mathlib.Core.Path.{◌≡◌}
use mathlib.Core.List.{[]}
use Prim.Native.Nat.{◌-◌, ◌/◌, ◌≤◌}
use lib.ListN.{length}
use Rattle.drafting.specs.Scripts.{calls_from}
use Rattle.drafting.proofs.Filling.{Filling}
use Rattle.drafting.proofs.script.calls_of.Given as goal

abbrev pub invariant-loop-i : goal.invariant-loop-i
invariant-loop-i l = (l.n ≤ length l.out) × ((length l.out ≡ length l.initial.out) × (Filling l.initial.out 0 (calls_from (length l.initial.out / 5) l.text [] 0 l.initial.i) (calls_from ((length l.initial.out - l.n) / 5) l.text [] 0 l.i) l.out l.n))

abbrev pub decreases-loop-i : goal.decreases-loop-i
decreases-loop-i l = length l.initial.out - l.n
