-- `text::put_number` meets its contract: `io::decimal`'s digits are the numeral's.
-- Assumes nothing.
use mathlib.Core.Path.{sym, ◌∙◌}
use Rattle.retimer.proofs.Writing.{as_part}
use Rattle.report.proofs.Numerals.{numeral_is, twenty_digits}
use Rattle.report.proofs.text.put_number.Goals as goal

pub returns : goal.returns
returns c = as_part c.put.ensures (c.decimal-k.ensures.digits ∙ sym (numeral_is c.decimal-k.result c.args.n c.decimal-k.ensures.len (twenty_digits c.decimal-k.result c.args.n c.decimal-k.ensures.len c.ranges.n.fits)))
