-- `diagonals::count_rows` meets its contract. The invariant: the rows before y are counted, and `before` is the row before y. Assumes nothing.
use Rattle.retimer.proofs.sets.Counting.{Counting}
use Rattle.retimer.proofs.sets.diagonals.count_rows.Given as goal

abbrev pub invariant-loop-y : goal.invariant-loop-y
invariant-loop-y l = Counting l.rows l.initial.counts l.counts l.l l.from l.y l.before
