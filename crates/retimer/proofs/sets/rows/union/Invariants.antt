-- `rows::union` meets its contract. The invariant: `any` has the readings of the rows from a up to i. Assumes nothing.
use Rattle.retimer.proofs.sets.Joining.{Uniting}
use Rattle.retimer.proofs.sets.rows.union.Given as goal

abbrev pub invariant-loop-i : goal.invariant-loop-i
invariant-loop-i l = Uniting l.src l.a l.i l.any
