-- `play::begin` meets its contract. One bit of one row. Assumes nothing.
use Rattle.retimer.proofs.sets.Beginning.{single}
use Rattle.enforcement.proofs.Loading.{header, size_fits}
use native.Mathlib.Omega.{arith}
use Rattle.retimer.proofs.sets.play.begin.Goals as goal

pub height-h-requires : goal.height-h-requires
height-h-requires c = omega (arith, size_fits _ c.requires.0)

pub overflow_shl-result : goal.overflow_shl-result
overflow_shl-result c = omega (arith, (header _ c.requires.0).locations_fit, c.requires.1.0.in_sheet)

pub returns : goal.returns
returns c = single _ _ _ _ _ _ _ c.requires.1.1 c.requires.0 c.requires.1.0 c.height-h.ensures c.from.ensures c.from-2.ensures
