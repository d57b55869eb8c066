-- `transitions::put_all` meets its contract: those put and those ahead are all.
-- Assumes nothing.
use native.Mathlib.Omega.{arith}
use Rattle.product.proofs.Putting.{going_begun, going_room, going_put, going_done}
use Rattle.product.proofs.transitions.put_all.Goals as goal

pub loop-l-init : goal.loop-l-init
loop-l-init c = let a = c.args in going_begun a.first.now a.second.now a.out.now a.at c.count-l-end.result c.count-l-end.ensures c.requires.1

pub put_at-end-requires : goal.put_at-end-requires
put_at-end-requires c =
    let h = c.loop-l.invariant in
    (c.requires.0, (omega (arith, h.count_is), going_room h c.loop-l-test.true))

pub loop-l-preserved : goal.loop-l-preserved
loop-l-preserved c =
    let p = c.put_at-end in
    going_put c.loop-l.invariant c.loop-l-test.true p.ensures p.auto.out

pub returns : goal.returns
returns c = going_done c.loop-l.invariant c.loop-l-test.false
