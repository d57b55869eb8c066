-- `desk::mark_input` meets its contract: a sheet that is accepted has a fresh box.
-- Assumes nothing.
use Rattle.retimer.proofs.Loads.{accepted_loads}
use Rattle.marking.proofs.desk.mark_input.Goals as goal

pub mark_calls-requires : goal.mark_calls-requires
mark_calls-requires g c = (c.load-start.ensures.fresh (accepted_loads _ _ c.load-start.result.checked _ c.in-Ok.is c.load-start.ensures.checked)).valid
