-- `whole::fill_each` meets its contract. The invariant: the places among the first l locations are full, the others are as they were. Assumes nothing.
use Rattle.retimer.proofs.sets.Filling.{Filling}
use Rattle.retimer.proofs.sets.whole.fill_each.Given as goal

abbrev pub invariant-loop-l : goal.invariant-loop-l
invariant-loop-l l = Filling l.initial.rows l.rows l.places l.l
