-- `diagonals::position` meets its contract. Assumes nothing.
use Rattle.retimer.proofs.sets.Lines.{position_top, position_below}
use native.Mathlib.Omega.{arith}
use Rattle.retimer.proofs.sets.diagonals.position.Goals as goal

pub returns-then-y-eq-TOP : goal.returns-then-y-eq-TOP
returns-then-y-eq-TOP c = position_top _ _ c.if-y-eq-TOP.true

pub returns : goal.returns
returns c = omega (arith, position_below c.args.x c.args.y c.if-y-eq-TOP.false)
