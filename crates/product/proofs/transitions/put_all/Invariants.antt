-- `transitions::put_all` meets its contract: those put and those ahead are all.
-- Assumes nothing.
use Rattle.product.proofs.Putting.{Going}
use Rattle.product.proofs.transitions.put_all.Given as goal

abbrev pub invariant-loop-l : goal.invariant-loop-l
invariant-loop-l l = Going l.first l.second l.initial.out l.at l.l-end l.out l.end l.l
