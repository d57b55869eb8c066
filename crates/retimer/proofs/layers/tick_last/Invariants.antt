-- `layers::tick_last` meets its contract. Assumes nothing.
use Rattle.retimer.proofs.LayingRows.{InLast}
use Rattle.retimer.proofs.layers.tick_last.Given as goal

abbrev pub invariant-loop-x : goal.invariant-loop-x
invariant-loop-x l = InLast l.here l.x l.initial.table l.table
