-- `layers::note` meets its contract. Assumes nothing.
use Rattle.retimer.proofs.LayingLocations.{InNote}
use Rattle.retimer.proofs.layers.note.Given as goal

abbrev pub invariant-loop-z : goal.invariant-loop-z
invariant-loop-z l = InNote l.s l.cs l.k l.l l.initial.first l.initial.second l.first l.second l.z
