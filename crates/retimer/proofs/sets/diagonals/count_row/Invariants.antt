-- `diagonals::count_row` meets its contract. The invariant: the readings that are not left are stored. The measure is their number as bits. Assumes nothing.
use Rattle.retimer.proofs.sets.Counting.{Storing}
use Rattle.retimer.proofs.sets.diagonals.count_row.Given as goal

abbrev pub invariant-loop-left : goal.invariant-loop-left
invariant-loop-left l = Storing l.initial.counts l.counts l.l l.y l.gaps l.left

abbrev pub decreases-loop-left : goal.decreases-loop-left
decreases-loop-left l = l.left
