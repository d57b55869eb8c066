-- `rows::flag` meets its contract. Assumes nothing.
use mathlib.Core.Path.{subst⁻¹}
use Rattle.retimer.specs.Row.{Flag}
use Rattle.retimer.proofs.sets.Joining.{flagged}
use Rattle.retimer.proofs.sets.rows.flag.Goals as goal

pub returns : goal.returns
returns c = subst⁻¹ (Flag _) c.from.ensures (flagged c.ranges.e.fits)
