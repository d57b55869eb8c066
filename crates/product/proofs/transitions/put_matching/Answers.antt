-- `transitions::put_matching` meets its contract: those put and those ahead are all.
-- Assumes nothing.
use Rattle.product.proofs.RowLaws.{fitting_at}
use Rattle.product.proofs.Putting.{matching_begun, matching_room, matching_put, matching_left, matching_done}
use Rattle.product.proofs.transitions.put_matching.Goals.{then-first-p, else-first-p}
use Rattle.product.proofs.transitions.put_matching.Goals as goal

pub loop-i-init : goal.loop-i-init
loop-i-init c =
    let a = c.args in
    matching_begun a.first.now a.p a.second.now a.out.now a.at a.row c.requires.1.1.1

pub put_joint-end-requires : goal.put_joint-end-requires
put_joint-end-requires c =
    let r = c.requires in
    let some = c.loop-i-test.true in
    (r.0, (r.1.0, (fitting_at c.loop-i.i some r.1.1.0, matching_room c.loop-i.invariant some c.if-first-p.true)))

pub loop-i-preserved : goal.loop-i-preserved
loop-i-preserved c =
    let h = c.loop-i.invariant in
    let some = c.loop-i-test.true in
    elim c.if-first-p.branch [
      | then-first-p w ↦ rw (w.out-is, w.end-is) (matching_put h some w.if-first-p.true w.put_joint-end.ensures w.put_joint-end.auto.out)
      | else-first-p w ↦ rw (w.out-is, w.end-is) (matching_left h some w.if-first-p.false)
    ]

pub returns : goal.returns
returns c = matching_done c.loop-i.invariant c.loop-i-test.false
