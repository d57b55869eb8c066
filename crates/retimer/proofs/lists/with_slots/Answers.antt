-- `lists::with_slots` meets its contract. The loop's invariant: i of the requests stand after the first n slots.
-- Assumes nothing.
use native.Mathlib.Omega.{arith}
use lib.ListN.{length-set}
use Rattle.retimer.proofs.Arrays.{slots_none, slots_more, slots_last}
use Rattle.retimer.proofs.lists.with_slots.Goals as goal

pub loop-i-init : goal.loop-i-init
loop-i-init c =
    (omega arith, (slots_none c.args.slots c.args.requests c.args.ds c.args.n, (omega arith, omega arith)))

pub loop-i-preserved : goal.loop-i-preserved
loop-i-preserved c =
    let l = c.loop-i in
    let v = l.invariant in
    (simp length-set v.0, (slots_more _ l.slots _ _ _ l.i (omega arith) (omega (arith, c.requires)) v.1.0 (omega arith), v.1.1))

pub returns : goal.returns
returns c =
    let l = c.loop-i in
    let v = l.invariant in
    (slots_last _ l.slots _ _ _ l.i (omega arith) (omega (arith, c.requires)) v.1.0 _ _ (omega arith) (omega arith), simp length-set v.0)
