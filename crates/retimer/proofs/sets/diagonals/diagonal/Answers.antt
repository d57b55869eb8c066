-- `diagonals::diagonal` meets its contract. Assumes nothing.
use Rattle.retimer.proofs.sets.Lines.{diagonal_top, diagonal_below}
use mathlib.Core.Path.{◌∙◌}
use Rattle.retimer.proofs.sets.diagonals.diagonal.Goals as goal

pub returns-then-y-eq-TOP : goal.returns-then-y-eq-TOP
returns-then-y-eq-TOP c = diagonal_top _ _ c.if-y-eq-TOP.true

pub returns : goal.returns
returns c = c.from.ensures ∙ diagonal_below _ _ c.if-y-eq-TOP.false
