-- `diagonals::count` meets its contract. The invariant: the first l locations are counted, the others have nothing yet. Assumes nothing.
use Rattle.retimer.proofs.sets.Counting.{CountingAll}
use Rattle.retimer.proofs.sets.diagonals.count.Given as goal

abbrev pub invariant-loop-l : goal.invariant-loop-l
invariant-loop-l l = CountingAll l.rows l.counts l.l l.from
