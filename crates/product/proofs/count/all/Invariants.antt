-- `count::all` meets its contract: those counted and those ahead are all.
-- Assumes nothing.
use Rattle.product.proofs.Counts.{CountedAll}
use Rattle.product.proofs.count.all.Given as goal

abbrev pub invariant-loop-l : goal.invariant-loop-l
invariant-loop-l l = CountedAll l.first l.second l.l-end l.k l.l
