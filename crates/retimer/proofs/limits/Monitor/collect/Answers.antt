-- `Monitor::collect` meets its contract: the call is made on the box's parts.
-- Assumes nothing.
use Rattle.retimer.proofs.CallLaws.{sheet_size, move_call}
use Rattle.retimer.proofs.limits.Monitor.collect.Goals as goal

pub slice_bounds-collect-end : goal.slice_bounds-collect-end
slice_bounds-collect-end c = sheet_size c.requires.sound

pub returns : goal.returns
returns c = rw c.with_state.ensures (move_call c.requires.sound c.collect-moved.ensures)
