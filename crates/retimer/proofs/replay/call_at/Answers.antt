-- `replay::call_at` meets its contract, for a collection and for an offer.
-- Assumes nothing.
use native.Mathlib.Omega.{arith}
use Rattle.retimer.proofs.Replays.{call_collect, call_offer}
use Rattle.retimer.proofs.replay.call_at.Goals as goal

pub returns-then-c : goal.returns-then-c
returns-then-c c =
    let a = c.args in
    let d = c.double_word_at-t in
    call_collect a.calls.now a.i d.result (omega (arith, c.if-c.true)) d.ensures c.collect.ensures

pub returns : goal.returns
returns c =
    let a = c.args in
    let d = c.double_word_at-t in
    call_offer a.calls.now a.i d.result c.if-c.false d.ensures c.offer.ensures
