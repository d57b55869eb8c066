-- `layers::lower_box` meets its contract. Assumes nothing.
use Rattle.enforcement.specs.Automaton.{transition_at}
use Rattle.retimer.proofs.LayingBoxes.{InBox}
use Rattle.retimer.proofs.layers.lower_box.Given as goal

abbrev pub invariant-loop-y : goal.invariant-loop-y
invariant-loop-y l = InBox (transition_at l.s l.p) l.other l.t l.m l.y l.initial.table l.table
