-- `calls::all` meets its contract: the sheet loads, so there is a box.
-- Assumes nothing.
use Rattle.retimer.proofs.Loads.{accepted_loads}
use Rattle.layers.proofs.calls.all.Goals as goal

pub offer-held-requires : goal.offer-held-requires
offer-held-requires g c =
    let l = c.load-start in
    (l.ensures.fresh (accepted_loads _ 0 l.result.checked _ c.in-Ok.is l.ensures.checked)).valid
