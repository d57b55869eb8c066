-- `line::put_played` meets its contract: the figures follow each other.
-- Assumes nothing.
use native.Mathlib.Omega.{arith}
use Rattle.report.proofs.Numerals.{numeral_few}
use Rattle.retimer.proofs.Writing.{next}
use Rattle.report.proofs.LineLaws.{dated_few}
use Rattle.report.proofs.line.put_played.Goals as goal

pub put_figure-numbered-requires : goal.put_figure-numbered-requires
put_figure-numbered-requires c = let e = c.args.slot in omega (arith, dated_few e.request.action e.date)

pub put_figure-requires : goal.put_figure-requires
put_figure-requires c = let e = c.args.slot in omega (arith, dated_few e.request.action e.date, numeral_few e.request.number)

pub returns : goal.returns
returns c =
    let e = c.args.slot in
    next (omega (arith, dated_few e.request.action e.date, numeral_few e.request.number)) (next (omega (arith, dated_few e.request.action e.date)) c.put_dated-dated.ensures c.put_figure-numbered.ensures) c.put_figure.ensures
