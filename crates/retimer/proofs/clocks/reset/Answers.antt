-- `clocks::reset` meets its contract, from what `kept` ensures of each reading. Assumes nothing.
use Rattle.retimer.proofs.Valuations.{built_reset}
use Rattle.retimer.proofs.clocks.reset.Goals as goal

pub returns : goal.returns
returns c = built_reset _ c.requires c.kept.ensures c.kept-2.ensures
