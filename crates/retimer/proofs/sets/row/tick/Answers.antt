-- `row::tick` meets its contract. A doubled row below the saturated reading, and that reading if it is there. Assumes nothing.
use Rattle.retimer.proofs.sets.RowLaws.{tick_right}
use Rattle.retimer.proofs.sets.row.tick.Goals as goal

pub returns : goal.returns
returns c = tick_right _ c.requires
