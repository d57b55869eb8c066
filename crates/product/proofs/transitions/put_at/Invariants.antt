-- `transitions::put_at` meets its contract: those put and those ahead are all.
-- Assumes nothing.
use Rattle.enforcement.specs.Automaton.{locations}
use Rattle.product.specs.Rows.{row_transitions}
use Rattle.product.proofs.Putting.{Laying}
use Rattle.product.proofs.transitions.put_at.Given as goal

abbrev pub invariant-loop-i : goal.invariant-loop-i
invariant-loop-i l = Laying l.first (locations l.second) (row_transitions l.second l.b) l.initial.out l.at l.a l.out l.end l.i
