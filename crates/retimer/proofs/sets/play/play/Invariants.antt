-- `play::play` meets its contract. The invariant: the next set has what the first l locations lead to, their rows are waited, and the rows of the others are as they were. Assumes nothing.
use Rattle.retimer.proofs.sets.Stepping.{Underway}
use Rattle.retimer.proofs.sets.play.play.Given as goal

abbrev pub invariant-loop-l : goal.invariant-loop-l
invariant-loop-l l = Underway l.s l.c l.initial.set l.set l.next l.found l.l
