-- `waits::end_wait` meets its contract. Assumes nothing.
use Rattle.retimer.proofs.Intervals.{end_built}
use Rattle.retimer.proofs.waits.end_wait.Goals as goal

pub returns : goal.returns
returns c = end_built _ _ _ _ _ _ _ c.saturation-cap.ensures c.ends.ensures c.ends-2.ensures c.min.ensures
