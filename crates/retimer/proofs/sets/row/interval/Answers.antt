-- `row::interval` meets its contract. The bits of a difference of powers of two. Assumes nothing.
use Rattle.retimer.proofs.sets.RowLaws.{interval_fits, interval_right}
use Rattle.retimer.proofs.sets.row.interval.Goals as goal

pub overflow_sub-result : goal.overflow_sub-result
overflow_sub-result c = interval_fits _ _ c.requires.0 c.requires.1

pub returns : goal.returns
returns c = interval_right _ _ c.requires.0 c.requires.1
