-- `State::collect` meets its contract: each first check is the model's, and a call whose parts are right is right.
-- Assumes nothing.
use native.Mathlib.Omega.{arith}
use Rattle.retimer.proofs.CallLaws.{collect_late, collect_past, collect_played}
use Rattle.retimer.proofs.limits.State.collect.Goals as goal

pub returns-then-t-gt-LATEST : goal.returns-then-t-gt-LATEST
returns-then-t-gt-LATEST c =
    rw c.refuse.ensures (collect_late c.requires c.args.t (omega (arith, c.if-t-gt-LATEST.true)))

pub returns-then-t-self : goal.returns-then-t-self
returns-then-t-self c =
    rw c.refuse-then-t-self.ensures (collect_past c.requires c.args.t (omega (arith, c.if-t-gt-LATEST.false)) (omega (arith, c.if-t-self.true)))

pub returns : goal.returns
returns c =
    collect_played c.requires c.args.t (omega (arith, c.if-t-gt-LATEST.false)) (omega (arith, c.if-t-self.false)) c.play.ensures
