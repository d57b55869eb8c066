-- `diagonals::count_rows` meets its contract. The invariant: the rows before y are counted, and `before` is the row before y. Assumes nothing.
use Rattle.retimer.proofs.sets.Counting.{counting_begun, counting_more}
use Rattle.retimer.proofs.sets.diagonals.count_rows.Goals as goal

pub loop-y-init : goal.loop-y-init
loop-y-init c = counting_begun c.requires

pub loop-y-preserved : goal.loop-y-preserved
loop-y-preserved c = counting_more c.requires.closed c.loop-y.invariant c.loop-y-test.true c.gaps.ensures c.count_row.ensures
