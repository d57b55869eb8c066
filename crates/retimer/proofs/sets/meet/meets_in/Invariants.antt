-- `meet::meets_in` meets its contract. The invariant: the counts have no member of the first l locations. Assumes nothing.
use Rattle.retimer.proofs.sets.Meeting.{NoneBelow}
use Rattle.retimer.proofs.sets.meet.meets_in.Given as goal

abbrev pub invariant-loop-l : goal.invariant-loop-l
invariant-loop-l l = NoneBelow l.counts l.set l.h l.l
