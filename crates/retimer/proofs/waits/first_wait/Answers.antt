-- `waits::first_wait` meets its contract. Assumes nothing.
use native.Mathlib.Omega.{arith}
use Rattle.retimer.specs.Waits.{first_wait}
use Rattle.retimer.proofs.waits.first_wait.Goals as goal

pub returns : goal.returns
unfolding first_wait
returns c = omega arith
