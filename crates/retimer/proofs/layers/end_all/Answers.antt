-- `layers::end_all` meets its contract. Assumes nothing.
use native.Mathlib.Omega.{arith}
use Rattle.enforcement.proofs.Loading.{pairs_fit}
use Rattle.retimer.proofs.layers.end_all.Goals as goal

pub bounds-s-0 : goal.bounds-s-0
bounds-s-0 c = omega (arith, pairs_fit c.args.s.now c.requires.0)
