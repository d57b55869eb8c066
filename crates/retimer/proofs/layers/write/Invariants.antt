-- `layers::write` meets its contract. Assumes nothing.
use Rattle.retimer.proofs.LayingLocations.{InLay}
use Rattle.retimer.proofs.layers.write.Given as goal

abbrev pub invariant-loop-p : goal.invariant-loop-p
invariant-loop-p l = InLay l.s l.cs l.k l.l l.m l.end l.initial.table l.table l.p
