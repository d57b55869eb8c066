-- `costs::cost` meets its contract. Assumes nothing.
use Rattle.retimer.proofs.Prospects.{located_in}
use Rattle.retimer.proofs.Memos.{cost_ended}
use Rattle.retimer.proofs.costs.cost.Goals as goal

pub ending-requires : goal.ending-requires
ending-requires c = let p = c.requires in (p.0.loads, located_in p.0.loads p.1.1)

pub returns-then-k-cs : goal.returns-then-k-cs
returns-then-k-cs c = let p = c.requires in cost_ended p.0 p.1.0 p.1.1 c.if-k-cs.true c.ending.ensures
