-- `location::count` meets its contract: the product of the counts fits.
-- Assumes nothing.
use native.Mathlib.Omega.{arith}
use Rattle.enforcement.proofs.Loading.{size_fits}
use Rattle.product.proofs.location.count.Goals as goal

pub bounds-first-0 : goal.bounds-first-0
bounds-first-0 c = omega (arith, (size_fits c.args.first.now c.requires.0).0)

pub bounds-second-0 : goal.bounds-second-0
bounds-second-0 c = omega (arith, (size_fits c.args.second.now c.requires.1).0)
