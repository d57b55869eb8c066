-- `line::sheet_line` meets its contract: the figures follow the header.
-- Assumes nothing.
use native.Mathlib.Omega.{arith}
use Rattle.retimer.specs.Checked.{figures_of}
use Rattle.report.proofs.Numerals.{numeral_few}
use Rattle.report.proofs.LineLaws.{header_few}
use Rattle.retimer.proofs.Writing.{next}
use Rattle.report.proofs.line.sheet_line.Goals as goal

pub put_figure-transitions-requires : goal.put_figure-transitions-requires
put_figure-transitions-requires c = omega (arith, header_few (figures_of c.args.k))

pub put_figure-accepting-requires : goal.put_figure-accepting-requires
put_figure-accepting-requires c = omega (arith, header_few (figures_of c.args.k), numeral_few c.args.k.transitions)

pub put-requires : goal.put-requires
put-requires c = omega (arith, header_few (figures_of c.args.k), numeral_few c.args.k.transitions, numeral_few c.args.k.accepting)

pub returns : goal.returns
returns c =
    let k = c.args.k in
    let header = header_few (figures_of k) in
    let few = numeral_few k.transitions in
    let more = numeral_few k.accepting in
    next (omega arith) (next (omega arith) (next (omega arith) c.put_header-header.ensures c.put_figure-transitions.ensures) c.put_figure-accepting.ensures) c.put.ensures
