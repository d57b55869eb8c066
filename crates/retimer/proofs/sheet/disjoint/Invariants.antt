-- `sheet::disjoint` meets its contract. The invariant: the transitions from the k-th on decide.
-- Assumes nothing.
use mathlib.Core.Path.{◌≡◌}
use Rattle.enforcement.specs.Automaton.{transitions_from}
use Rattle.enforcement.specs.Loading.{disjoint}
use Rattle.retimer.proofs.SheetLaws.{rest_from}
use Rattle.retimer.proofs.sheet.disjoint.Given as goal

abbrev pub invariant-loop-k : goal.invariant-loop-k
invariant-loop-k l = disjoint (rest_from l.s l.n l.first l.k) ≡ disjoint (transitions_from l.s l.n l.first)
