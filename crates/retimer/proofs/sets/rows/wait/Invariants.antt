-- `rows::wait` meets its contract. The invariant: the rows up to i have what any wait makes of the rows before. Assumes nothing.
use Rattle.retimer.proofs.sets.Waiting.{Sliding}
use Rattle.retimer.proofs.sets.rows.wait.Given as goal

abbrev pub invariant-loop-i : goal.invariant-loop-i
invariant-loop-i l = Sliding l.initial.rows l.rows l.row l.i
