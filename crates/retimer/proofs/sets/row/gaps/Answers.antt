-- `row::gaps` meets its contract. The bits of the readings that can come next without those of the row. Assumes nothing.
use Rattle.retimer.proofs.sets.RowLaws.{gaps_right}
use Rattle.retimer.proofs.sets.row.gaps.Goals as goal

pub returns : goal.returns
returns c = gaps_right _ _
