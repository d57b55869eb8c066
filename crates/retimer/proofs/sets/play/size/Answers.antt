-- `play::size` meets its contract. Assumes nothing.
use native.Mathlib.Omega.{arith}
use Rattle.enforcement.proofs.Loading.{size_fits}
use Rattle.retimer.proofs.sets.play.size.Goals as goal

pub bounds-s-0 : goal.bounds-s-0
bounds-s-0 c = omega (arith, size_fits _ c.requires)

pub height-requires : goal.height-requires
height-requires c = omega (arith, size_fits _ c.requires)
