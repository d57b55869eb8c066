-- `row::spread` meets its contract. Assumes nothing.
use Rattle.retimer.proofs.sets.RowLaws.{spread_all}
use Rattle.retimer.proofs.sets.row.spread.Goals as goal

pub returns-then-row-eq1 : goal.returns-then-row-eq1
returns-then-row-eq1 c = spread_all _ c.if-row-eq1.true
