-- `transitions::put_matching` meets its contract: those put and those ahead are all.
-- Assumes nothing.
use Rattle.product.proofs.Putting.{Matching}
use Rattle.product.proofs.transitions.put_matching.Given as goal

abbrev pub invariant-loop-i : goal.invariant-loop-i
invariant-loop-i l = Matching l.first l.p l.second l.initial.out l.at l.row l.out l.end l.i
