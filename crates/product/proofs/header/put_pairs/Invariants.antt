-- `header::put_pairs` meets its contract: those put and those ahead are all.
-- Assumes nothing.
use Rattle.product.proofs.Placing.{Placing}
use Rattle.product.proofs.header.put_pairs.Given as goal

abbrev pub invariant-loop-l : goal.invariant-loop-l
invariant-loop-l l = Placing l.first l.second l.initial.out l.at l.count l.out l.end l.place l.l
