-- `layers::ticks` meets its contract. Assumes nothing.
use native.Mathlib.Omega.{arith}
use Rattle.retimer.proofs.LayingRows.{ticks_next}
use Rattle.retimer.proofs.layers.ticks.Goals as goal

pub loop-y-preserved : goal.loop-y-preserved
loop-y-preserved c = ticks_next c.loop-y.invariant (omega arith) c.tick_rows.ensures
