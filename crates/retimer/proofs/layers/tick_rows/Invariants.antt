-- `layers::tick_rows` meets its contract. Assumes nothing.
use Rattle.retimer.specs.Layers.{Chosen, RowsTicked}
use Rattle.retimer.proofs.layers.tick_rows.Given as goal

abbrev pub invariant-loop-m : goal.invariant-loop-m
invariant-loop-m l = RowsTicked (Chosen l.h l.m l.places) l.y l.initial.table l.table
