-- `meet::meets_row` meets its contract. The invariant: the readings that are left decide. The measure is their number as bits. Assumes nothing.
use Rattle.retimer.proofs.sets.Meeting.{Left}
use Rattle.retimer.proofs.sets.meet.meets_row.Given as goal

abbrev pub invariant-loop-left : goal.invariant-loop-left
invariant-loop-left l = Left l.counts l.l l.y l.row l.left

abbrev pub decreases-loop-left : goal.decreases-loop-left
decreases-loop-left l = l.left
