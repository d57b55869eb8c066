-- `line::tail_line` meets its contract: a line where bytes are left over, and else nothing.
-- Assumes nothing.
use native.Mathlib.Omega.{arith}
use Rattle.report.proofs.Numerals.{numeral_few}
use Rattle.report.proofs.line.tail_line.Goals as goal

pub put-requires : goal.put-requires
put-requires c = omega (arith, numeral_few c.args.n)
