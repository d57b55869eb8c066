-- `costs::worth` meets its contract. Assumes nothing.
use Rattle.retimer.proofs.Chains.{worth_one, worth_some}
use Rattle.retimer.proofs.costs.worth.Goals as goal

pub returns-then-set-eq3 : goal.returns-then-set-eq3
returns-then-set-eq3 c = worth_one _ _ _ _ c.if-set-eq3.true c.min.ensures

pub returns : goal.returns
returns c = worth_some _ _ _ _ c.requires.0 c.if-set-eq3.false c.min-2.ensures c.requires.1
