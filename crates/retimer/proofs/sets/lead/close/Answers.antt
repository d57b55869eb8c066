-- `lead::close` meets its contract. The invariant: the rows from y on have gained what they are to gain, the others are as they were. Assumes nothing.
use Rattle.retimer.proofs.sets.Closing.{closing_begun, closing_more}
use native.Mathlib.Omega.{arith}
use Rattle.retimer.proofs.sets.lead.close.Goals as goal

pub loop-y-init : goal.loop-y-init
loop-y-init c = (closing_begun _ _ _ c.up_to_highest-row.ensures, omega arith)

pub loop-y-preserved : goal.loop-y-preserved
loop-y-preserved c = (closing_more c.requires.0 c.requires.1 c.loop-y.invariant.0 (omega (arith, c.loop-y-test.true)) c.loop-y.auto.y c.before-in-loop-y.ensures, omega (arith, c.loop-y-test.true, c.loop-y.invariant.1))
