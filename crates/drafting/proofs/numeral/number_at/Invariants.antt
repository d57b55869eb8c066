-- `numeral::number_at` meets its contract: the loop reads the number's digits in order.
-- Assumes nothing.
use Rattle.drafting.proofs.NumeralLaws.{Reading}
use Rattle.drafting.proofs.numeral.number_at.Given as goal

abbrev pub invariant-loop-i : goal.invariant-loop-i
invariant-loop-i l = Reading l.text l.from l.value l.i
