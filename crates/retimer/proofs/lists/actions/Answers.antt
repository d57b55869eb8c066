-- `lists::actions` meets its contract. The loop's invariant: the actions of the first i requests are copied.
-- Assumes nothing.
use native.Mathlib.Omega.{arith}
use lib.ListN.{length-set}
use Rattle.retimer.proofs.Arrays.{actions_more, actions_whole}
use Rattle.retimer.proofs.lists.actions.Goals as goal

pub loop-i-preserved : goal.loop-i-preserved
loop-i-preserved c =
    let l = c.loop-i in
    let v = l.invariant in
    (simp length-set v.0, (actions_more _ l.r l.i (omega arith) (omega arith) v.1.0, v.1.1))

pub returns : goal.returns
returns c =
    let l = c.loop-i in
    let a = c.args in
    actions_whole a.requests l.r l.i a.n (omega arith) l.invariant.1.0
