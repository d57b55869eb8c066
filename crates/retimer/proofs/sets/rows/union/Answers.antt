-- `rows::union` meets its contract. The invariant: `any` has the readings of the rows from a up to i. Assumes nothing.
use Rattle.retimer.proofs.sets.Joining.{uniting_more, united}
use native.Mathlib.Omega.{arith}
use Rattle.retimer.proofs.sets.rows.union.Goals as goal

pub loop-i-preserved : goal.loop-i-preserved
loop-i-preserved c = uniting_more c.args.src.now _ c.loop-i.i _ c.loop-i.auto.i c.loop-i.invariant

pub returns : goal.returns
returns c = united c.args.src.now _ c.args.a _ c.loop-i.i _ c.requires.1.1 (omega (arith, c.loop-i.auto, c.requires.0)) c.loop-i.invariant
