-- `count::matching` meets its contract: those counted and those ahead are all.
-- Assumes nothing.
use Rattle.product.proofs.Counts.{Counted}
use Rattle.product.proofs.count.matching.Given as goal

abbrev pub invariant-loop-i : goal.invariant-loop-i
invariant-loop-i l = Counted l.first l.p l.second l.row l.k l.i
