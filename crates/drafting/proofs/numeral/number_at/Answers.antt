-- `numeral::number_at` meets its contract: the loop reads the number's digits in order.
-- Assumes nothing.
use mathlib.Core.Path.{sym, ◌∙◌}
use Rattle.drafting.proofs.NumeralLaws.{digit_read, other_ends, text_ends}
use Rattle.drafting.proofs.numeral.number_at.Goals as goal

pub returns-then-not-is_digit : goal.returns-then-not-is_digit
returns-then-not-is_digit c = other_ends c.loop-i.invariant c.loop-i-test.true (sym c.is_digit.ensures ∙ c.if-not-is_digit.true)

pub loop-i-preserved : goal.loop-i-preserved
loop-i-preserved c =
    let d = c.is_digit in
    digit_read c.loop-i.invariant c.with_digit-value.result c.loop-i-test.true (sym d.ensures ∙ c.if-not-is_digit.false) c.with_digit-value.ensures

pub returns : goal.returns
returns c = text_ends c.loop-i.invariant c.loop-i-test.false
