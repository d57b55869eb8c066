-- `rows::start` meets its contract. One row gains readings. Assumes nothing.
use Rattle.retimer.proofs.sets.Joining.{joined_begun, joined_more}
use native.Mathlib.Omega.{arith}
use Rattle.retimer.proofs.sets.rows.start.Goals as goal

pub returns : goal.returns
returns c = joined_more _ _ _ _ 0 _ (omega arith) c.requires.0 (joined_begun _ _ 0 c.requires.1.1) c.requires.1.0 (λ x. (λ n. n, λ n. n))
