-- `block::mark` meets its contract: the loop's turn follows the model's call, and its line is the call's.
-- Assumes nothing.
use Rattle.std.proofs.Common.{arith, ◌≡◌, ◌+◌, ◌*◌, ◌≤◌, ◌<◌, length}
use Rattle.marking.proofs.Following.{parts, rest_few, goes_on, finishes}
use Rattle.marking.proofs.block.mark.Goals as goal

pub loop-k-preserved : goal.loop-k-preserved
loop-k-preserved c =
    let s = c.args.calls.now in
    let n = c.args.n in
    let k = c.loop-k.k in
    let w = c.call_line-end in
    let here : 5 * k + 5 ≤ length s = omega (arith, c.loop-k-test.true, parts s) in
    let number : n + (k + 1) ≡ n + k + 1 = omega arith in
    let place : 5 * (k + 1) ≡ 5 * k + 5 = omega arith in
    rw (number, place) (goes_on c.loop-k.invariant here c.call_at-called.ensures c.requires.1.1 w.ensures w.auto.out)

pub returns : goal.returns
returns c =
    let s = c.args.calls.now in
    let w = c.tail_line-written in
    let over : length s < 5 * c.loop-k.k + 5 = omega (arith, c.loop-k-test.false, parts s, rest_few s) in
    rw c.with_state.ensures (finishes c.loop-k.invariant over c.requires.0.sound c.requires.1.1 w.ensures w.auto.out)
