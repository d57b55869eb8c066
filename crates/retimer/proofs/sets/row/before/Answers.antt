-- `row::before` meets its contract. Assumes nothing.
use Rattle.retimer.proofs.sets.RowLaws.{before_right}
use Rattle.retimer.proofs.sets.row.before.Goals as goal

pub returns : goal.returns
returns c = before_right _
