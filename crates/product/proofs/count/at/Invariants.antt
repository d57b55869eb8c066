-- `count::at` meets its contract: those counted and those ahead are all.
-- Assumes nothing.
use Rattle.enforcement.specs.Automaton.{locations}
use Rattle.product.specs.Rows.{row_transitions}
use Rattle.product.proofs.Counts.{CountedAt}
use Rattle.product.proofs.count.at.Given as goal

abbrev pub invariant-loop-i : goal.invariant-loop-i
invariant-loop-i l = CountedAt l.first (locations l.second) (row_transitions l.second l.b) l.a l.k l.i
