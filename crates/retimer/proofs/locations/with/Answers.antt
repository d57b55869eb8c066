-- `locations::with` meets its contract. Assumes nothing.
use Rattle.retimer.proofs.LocationSets.{added}
use Rattle.retimer.proofs.locations.with.Goals as goal

pub returns : goal.returns
returns c = added _ _ c.requires
