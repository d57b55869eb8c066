-- `clocks::wait_many` meets its contract, from what `later` ensures of each reading. Assumes nothing.
use Rattle.retimer.proofs.Valuations.{built_waited}
use Rattle.retimer.proofs.clocks.wait_many.Goals as goal

pub returns : goal.returns
returns c = built_waited _ _ c.later.ensures c.later-2.ensures
