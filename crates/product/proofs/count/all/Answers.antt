-- `count::all` meets its contract: those counted and those ahead are all.
-- Assumes nothing.
use Rattle.product.proofs.Counts.{all_more, all_all}
use Rattle.product.proofs.count.all.Goals as goal

pub loop-l-preserved : goal.loop-l-preserved
loop-l-preserved c = all_more c.loop-l.invariant c.loop-l-test.true c.at-k.result c.at-k.ensures.0 c.at-k.ensures.1

pub returns : goal.returns
returns c = all_all c.loop-l.invariant c.loop-l-test.false
