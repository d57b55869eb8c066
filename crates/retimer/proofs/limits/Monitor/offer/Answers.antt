-- `Monitor::offer` meets its contract: the call is made on the box's parts.
-- Assumes nothing.
use Rattle.retimer.proofs.CallLaws.{sheet_size, move_call}
use Rattle.retimer.proofs.limits.Monitor.offer.Goals as goal

pub slice_bounds-offer-end : goal.slice_bounds-offer-end
slice_bounds-offer-end c = sheet_size c.requires.sound

pub returns : goal.returns
returns c = rw c.with_state.ensures (move_call c.requires.sound c.offer-moved.ensures)
