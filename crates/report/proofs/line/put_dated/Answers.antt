-- `line::put_dated` meets its contract: the date follows the number.
-- Assumes nothing.
use native.Mathlib.Omega.{arith}
use lib.ListN.{length-append}
use Rattle.report.specs.Texts.{numeral}
use Rattle.report.proofs.Numerals.{numeral_few}
use Rattle.retimer.proofs.Writing.{next}
use Rattle.report.proofs.line.put_dated.Goals as goal

pub put_figure-requires : goal.put_figure-requires
put_figure-requires c = omega (arith, numeral_few c.args.n, length-append c.args.word.now (numeral c.args.n))

pub returns : goal.returns
returns c = next (omega (arith, numeral_few c.args.n, length-append c.args.word.now (numeral c.args.n))) c.put_figure-number.ensures c.put_figure.ensures
