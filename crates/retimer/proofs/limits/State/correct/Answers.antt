-- `State::correct` meets its contract: no correction takes so long that the last date would be passed.
-- Assumes nothing.
use native.Mathlib.Omega.{arith}
use Rattle.retimer.proofs.Decisions.{worked, crowded_is}
use Rattle.retimer.proofs.Views.{refused_done}
use Rattle.retimer.specs.declared.reason.Reason.TheVariants.{S3}
use Rattle.retimer.proofs.limits.State.correct.Goals as goal

pub returns-then-start : goal.returns-then-start
returns-then-start c =
    let w = worked c.requires (omega (arith, c.well_formed)) in
    rw c.refuse.ensures (refused_done c.args.self S3 _ c.requires.sound (crowded_is w c.requires.correctable.1 (omega (arith, c.if-start.true)) (omega (arith, c.if-self.true))))
