-- `layers::tick_row` meets its contract. Assumes nothing.
use Rattle.enforcement.specs.Model.{width}
use Rattle.retimer.proofs.LayingRows.{InLower, after}
use Rattle.retimer.proofs.layers.tick_row.Given as goal

abbrev pub invariant-loop-x : goal.invariant-loop-x
invariant-loop-x l = InLower (after l.initial.table l.here) l.here 0 width l.x l.initial.table l.table
