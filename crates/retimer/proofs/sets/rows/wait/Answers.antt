-- `rows::wait` meets its contract. Assumes nothing.
use Rattle.retimer.proofs.sets.Waiting.{sliding_begun, sliding_more, waited_ended}
use native.Mathlib.Omega.{arith}
use Rattle.retimer.proofs.sets.rows.wait.Goals as goal

pub loop-i-init : goal.loop-i-init
loop-i-init c = sliding_begun _ c.requires.0 c.requires.1

pub loop-i-preserved : goal.loop-i-preserved
loop-i-preserved c = sliding_more _ _ _ _ c.requires.1 c.loop-i.invariant _ c.tick.ensures (omega (arith, c.loop-i-test.true))

pub returns : goal.returns
returns c = waited_ended _ _ _ _ c.requires.1 c.loop-i.invariant _ c.upward.ensures (omega (arith, c.loop-i.invariant.inside, c.loop-i-test.false))
