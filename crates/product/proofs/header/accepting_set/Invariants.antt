-- `header::accepting_set` meets its contract: the locations from l on are gathered.
-- Assumes nothing.
use Rattle.product.proofs.Gathering.{Gathered}
use Rattle.product.proofs.header.accepting_set.Given as goal

abbrev pub invariant-loop-l : goal.invariant-loop-l
invariant-loop-l l = Gathered l.first l.second l.initial.l l.set l.l
