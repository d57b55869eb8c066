-- `layers::end_all` meets its contract. Assumes nothing.
use Rattle.retimer.proofs.LayingAll.{InEnds}
use Rattle.retimer.proofs.layers.end_all.Given as goal

abbrev pub invariant-loop-l : goal.invariant-loop-l
invariant-loop-l l = InEnds l.s l.low l.high l.l
