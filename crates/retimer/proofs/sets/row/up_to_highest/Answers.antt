-- `row::up_to_highest` meets its contract. Assumes nothing.
use mathlib.Core.Path.{subst⁻¹}
use Rattle.retimer.specs.Row.{Highest}
use Rattle.retimer.proofs.sets.RowLaws.{up_to}
use Rattle.retimer.proofs.sets.row.up_to_highest.Goals as goal

pub returns : goal.returns
returns c = up_to _ _ _ (subst⁻¹ (Highest _) c.from.ensures c.highest.ensures) c.interval.ensures
