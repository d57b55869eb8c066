-- `State::place` meets its contract: too late, too many, and else scheduled.
-- Assumes nothing.
use native.Mathlib.Omega.{arith}
use Rattle.retimer.proofs.Views.{late_done, crowded_done}
use Rattle.retimer.proofs.limits.State.place.Goals as goal

pub returns-then-last-gt-LATEST : goal.returns-then-last-gt-LATEST
returns-then-last-gt-LATEST c =
    rw c.refuse.ensures (late_done c.args.self c.args.t c.args.cs c.args.ds c.args.last c.requires.sound (omega (arith, c.if-last-gt-LATEST.true)))

pub returns-then-n-k : goal.returns-then-n-k
returns-then-n-k c =
    rw c.refuse-then-n-k.ensures (crowded_done c.args.self c.args.t c.args.cs c.args.ds c.args.last c.requires.sound (omega (arith, c.if-last-gt-LATEST.false)) (omega (arith, c.if-n-k.true)))

pub schedule_all-requires : goal.schedule_all-requires
schedule_all-requires c = (c.requires, (omega (arith, c.if-last-gt-LATEST.false), omega (arith, c.if-n-k.false)))
