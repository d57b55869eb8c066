-- `costs::kept` meets its contract. Assumes nothing.
use Rattle.retimer.proofs.Chains.{kept_first_lem, kept_second_lem, kept_none}
use native.Mathlib.Omega.{arith}
use Rattle.retimer.proofs.costs.kept.Goals as goal

pub returns-then-set-eq1 : goal.returns-then-set-eq1
returns-then-set-eq1 c = kept_second_lem _ _ _ _ _ c.if-set-eq1.true (rw c.from.ensures at c.later.ensures)

pub returns-then-set-eq2 : goal.returns-then-set-eq2
returns-then-set-eq2 c = kept_first_lem _ _ _ _ _ c.if-set-eq2.true (rw c.from-then-set-eq2.ensures at c.later-then-set-eq2.ensures)

pub returns : goal.returns
returns c = let h = c.requires.0 in (kept_none _ _ _ _ h.0 h.1 c.if-set-eq1.false c.if-set-eq2.false, omega arith)
