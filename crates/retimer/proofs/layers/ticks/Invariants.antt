-- `layers::ticks` meets its contract. Assumes nothing.
use Rattle.retimer.specs.Layers.{Chosen}
use Rattle.retimer.proofs.LayingRows.{InTicks}
use Rattle.retimer.proofs.layers.ticks.Given as goal

abbrev pub invariant-loop-y : goal.invariant-loop-y
invariant-loop-y l = InTicks (Chosen l.h l.n l.places) l.y l.initial.table l.table
