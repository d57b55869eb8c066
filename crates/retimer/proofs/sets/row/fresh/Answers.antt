-- `row::fresh` meets its contract. The bits of a row without those of another. Assumes nothing.
use Rattle.retimer.proofs.sets.RowLaws.{fresh_right}
use Rattle.retimer.proofs.sets.row.fresh.Goals as goal

pub returns : goal.returns
returns c = fresh_right _ _ c.requires.0
