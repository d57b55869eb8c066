-- `rows::join` meets its contract. The invariant: the rows from a up to i have gained theirs, and `any` has their readings. Assumes nothing.
use Rattle.retimer.specs.Sets.{Gains}
use Rattle.retimer.proofs.sets.Joining.{Uniting}
use Rattle.retimer.proofs.sets.rows.join.Given as goal

abbrev pub invariant-loop-i : goal.invariant-loop-i
invariant-loop-i g l = Gains l.src l.initial.out l.out l.cols l.a l.i (goal.F-post g l.made) × Uniting l.src l.a l.i l.any
