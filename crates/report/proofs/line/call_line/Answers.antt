-- `line::call_line` meets its contract: number, answer and lamp follow each other.
-- Assumes nothing.
use native.Mathlib.Omega.{arith}
use Rattle.report.proofs.Numerals.{numeral_few}
use Rattle.retimer.proofs.Writing.{next}
use Rattle.report.proofs.LineLaws.{answer_few}
use Rattle.report.proofs.line.call_line.Goals as goal

pub put-blank-requires : goal.put-blank-requires
put-blank-requires c = omega (arith, numeral_few c.args.n)

pub put_answer-answer-requires : goal.put_answer-answer-requires
put_answer-answer-requires c = omega (arith, numeral_few c.args.n)

pub put_lamp-requires : goal.put_lamp-requires
put_lamp-requires c = omega (arith, numeral_few c.args.n, answer_few c.args.a)

pub returns : goal.returns
returns c =
    let few = numeral_few c.args.n in
    next (omega (arith, answer_few c.args.a)) (next (omega arith) (next (omega arith) c.put_number-number.ensures c.put-blank.ensures) c.put_answer-answer.ensures) c.put_lamp.ensures
