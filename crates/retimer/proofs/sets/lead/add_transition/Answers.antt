-- `lead::add_transition` meets its contract. The invariant: the rows from y on have gained what they are to gain, the others are as they were. Assumes nothing.
use Rattle.retimer.proofs.sets.Adding.{adding_begun, adding_more, adding_same, adding_ended}
use Rattle.retimer.proofs.sets.Bounding.{past_ordered}
use native.Mathlib.Omega.{arith}
use Rattle.retimer.proofs.sets.lead.add_transition.Goals as goal

pub loop-y-init : goal.loop-y-init
loop-y-init c = (omega (arith, c.past-y.ensures), adding_begun _ _ _ _ c.past-y.ensures)

pub loop-y-preserved-then-add_row : goal.loop-y-preserved-then-add_row
loop-y-preserved-then-add_row c =
    (omega (arith, c.loop-y-test.true, c.loop-y.invariant.0), adding_more c.requires.0 c.requires.1.0 c.loop-y.invariant.1 (omega (arith, c.loop-y-test.true, c.max-least.ensures, c.from.ensures)) (omega (arith, c.loop-y.auto.y, c.past-y.ensures)) (omega (arith, c.loop-y.auto.y, c.past-y.ensures, (past_ordered _ _ c.requires.1.1.1.0.second).1)) c.columns-allowed.ensures c.from-target.ensures c.leading.ensures c.add_row.ensures c.if-add_row.true)

pub loop-y-preserved : goal.loop-y-preserved
loop-y-preserved c =
    (omega (arith, c.loop-y-test.true, c.loop-y.invariant.0), adding_same c.requires.0 c.requires.1.0 c.loop-y.invariant.1 (omega (arith, c.loop-y-test.true, c.max-least.ensures, c.from.ensures)) (omega (arith, c.loop-y.auto.y, c.past-y.ensures)) (omega (arith, c.loop-y.auto.y, c.past-y.ensures, (past_ordered _ _ c.requires.1.1.1.0.second).1)) c.columns-allowed.ensures c.from-target.ensures c.leading.ensures c.add_row.ensures c.if-add_row.false)

pub returns : goal.returns
returns c =
    adding_ended _ c.loop-y.invariant.1 (omega (arith, c.loop-y-test.false, c.max-least.ensures, c.from.ensures)) (omega (arith, c.loop-y.invariant.0, c.max-least.ensures, c.from.ensures))
