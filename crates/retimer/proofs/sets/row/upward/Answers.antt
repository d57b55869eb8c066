-- `row::upward` meets its contract. The interval from the lowest bit on. Assumes nothing.
use Rattle.retimer.proofs.sets.RowLaws.{lowest_inside, upward_some}
use native.Mathlib.Omega.{arith}
use Rattle.retimer.proofs.sets.row.upward.Goals as goal

pub interval-requires : goal.interval-requires
interval-requires c = (lowest_inside _ c.requires c.if-row-eq0.false, omega arith)

pub returns : goal.returns
returns c = upward_some _ _ c.requires c.if-row-eq0.false c.interval.ensures
