-- `line::put_header` meets its contract: the figures follow each other.
-- Assumes nothing.
use native.Mathlib.Omega.{arith}
use Rattle.report.proofs.Numerals.{numeral_few}
use Rattle.retimer.proofs.Writing.{next}
use Rattle.report.proofs.line.put_header.Goals as goal

pub put_figure-clocks-requires : goal.put_figure-clocks-requires
put_figure-clocks-requires c = omega (arith, numeral_few c.args.k.locations)

pub put_figure-requires : goal.put_figure-requires
put_figure-requires c = omega (arith, numeral_few c.args.k.locations, numeral_few c.args.k.clocks)

pub returns : goal.returns
returns c =
    let k = c.args.k in
    let few = numeral_few k.locations in
    let more = numeral_few k.clocks in
    next (omega arith) (next (omega arith) c.put_figure-locations.ensures c.put_figure-clocks.ensures) c.put_figure.ensures
