-- `lookup::applies` meets its contract, by the action and then the readings.
-- Assumes nothing.
use mathlib.Core.Path.{◌∙◌}
use Rattle.retimer.proofs.Transitions.{applies_other, applies_own}
use Rattle.retimer.proofs.lookup.applies.Goals as goal

pub returns-then-s-p : goal.returns-then-s-p
returns-then-s-p c = applies_other _ _ _ _ _ c.if-s-p.true

pub returns : goal.returns
returns c = c.enabled.ensures ∙ applies_own _ _ _ _ _ c.if-s-p.false
