-- `reach::outlook_of` meets its contract. A single action, else by the number of clocks. Assumes nothing.
use native.Mathlib.Omega.{arith}
use Rattle.enforcement.proofs.Loading.{size_fits}
use Rattle.retimer.proofs.reach.outlook_of.Goals as goal

pub bounds-s-1 : goal.bounds-s-1
bounds-s-1 c = omega (arith, size_fits _ c.requires.0.loads)
