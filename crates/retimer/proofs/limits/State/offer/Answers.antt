-- `State::offer` meets its contract: each first check is the model's, and a call whose parts are right is right.
-- Assumes nothing.
use native.Mathlib.Omega.{arith}
use Rattle.enforcement.proofs.Loading.{size_fits}
use Rattle.retimer.proofs.CallLaws.{offer_unknown, offer_late, offer_past, offer_unnumbered, offer_decided, offer_lit}
use Rattle.retimer.proofs.limits.State.offer.Goals as goal

pub bounds-s-2 : goal.bounds-s-2
bounds-s-2 c =
    omega (arith, size_fits c.args.s.now c.requires.sound.loads)

pub returns-then-s-c : goal.returns-then-s-c
returns-then-s-c c =
    rw c.refuse.ensures (offer_unknown c.requires c.args.c c.args.t (omega (arith, c.if-s-c.true)))

pub returns-then-t-gt-LATEST : goal.returns-then-t-gt-LATEST
returns-then-t-gt-LATEST c =
    rw c.refuse-then-t-gt-LATEST.ensures (offer_late c.requires c.args.c c.args.t (omega (arith, c.if-s-c.false)) (omega (arith, c.if-t-gt-LATEST.true)))

pub returns-then-t-self : goal.returns-then-t-self
returns-then-t-self c =
    rw c.refuse-then-t-self.ensures (offer_past c.requires c.args.c c.args.t (omega (arith, c.if-s-c.false)) (omega (arith, c.if-t-gt-LATEST.false)) (omega (arith, c.if-t-self.true)))

pub returns-then-self-ge-NUMBERED : goal.returns-then-self-ge-NUMBERED
returns-then-self-ge-NUMBERED c =
    rw c.refuse-then-self-ge-NUMBERED.ensures (offer_unnumbered c.requires c.args.c c.args.t (omega (arith, c.if-s-c.false)) (omega (arith, c.if-t-gt-LATEST.false)) (omega (arith, c.if-t-self.false)) (omega (arith, c.if-self-ge-NUMBERED.true)))

pub drop_at-requires : goal.drop_at-requires
drop_at-requires c = omega (arith, c.if-self-ge-NUMBERED.false)

pub returns-then-self : goal.returns-then-self
returns-then-self c =
    rw c.drop_at.ensures (offer_lit c.requires c.args.t c.if-self.true (omega (arith, c.if-t-gt-LATEST.false)) (omega (arith, c.if-t-self.false)) c.args.c (omega (arith, c.if-s-c.false)) (omega (arith, c.if-self-ge-NUMBERED.false)))

pub returns : goal.returns
returns c =
    offer_decided c.requires c.args.c c.args.t (omega (arith, c.if-s-c.false)) (omega (arith, c.if-t-gt-LATEST.false)) (omega (arith, c.if-t-self.false)) (omega (arith, c.if-self-ge-NUMBERED.false)) c.decide.ensures
