-- `sheet::overlaps_none` meets its contract. The invariant: the transitions from the k-th on decide.
-- Assumes nothing.
use mathlib.Core.Path.{◌≡◌}
use Rattle.enforcement.specs.Automaton.{transition_at, transitions_from}
use Rattle.enforcement.specs.Loading.{overlaps_none}
use Rattle.retimer.proofs.SheetLaws.{rest_from}
use Rattle.retimer.proofs.sheet.overlaps_none.Given as goal

abbrev pub invariant-loop-k : goal.invariant-loop-k
invariant-loop-k l = overlaps_none (transition_at l.s l.p) (rest_from l.s l.n l.first l.k) ≡ overlaps_none (transition_at l.s l.p) (transitions_from l.s l.n l.first)
