-- `sheet::disjoint_over` meets its contract. The invariant: the locations from l on decide.
-- Assumes nothing.
use mathlib.Core.Path.{◌≡◌}
use Prim.Native.Nat.{◌-◌, ◌≤◌}
use Rattle.enforcement.specs.Automaton.{locations}
use Rattle.enforcement.specs.Loading.{disjoint_over}
use Rattle.retimer.proofs.sheet.disjoint_over.Given as goal

abbrev pub invariant-loop-l : goal.invariant-loop-l
invariant-loop-l l = (l.l ≤ l.count) × (disjoint_over l.s (l.count - l.l) l.l ≡ disjoint_over l.s (locations l.s) 0)
