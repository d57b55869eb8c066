-- `liveness::sweep` meets its contract. The invariant: the locations from l on are done. Assumes nothing.
use Rattle.retimer.proofs.LiveTable.{Sweeping}
use Rattle.retimer.proofs.liveness.sweep.Given as goal

abbrev pub invariant-loop-l : goal.invariant-loop-l
invariant-loop-l l = Sweeping l.s l.initial.set l.set l.gained l.l l.next
