-- `lead::add_row` meets its contract. Assumes nothing.
use Rattle.retimer.proofs.sets.Tables.{row_added}
use native.Mathlib.Omega.{arith}
use Rattle.retimer.proofs.sets.lead.add_row.Goals as goal

pub returns : goal.returns
returns c = row_added c.args.rows.now c.args.i c.args.more c.requires (omega arith) c.ranges.more.fits
