-- `waits::ends` meets its contract. Assumes nothing.
use native.Mathlib.Omega.{arith}
use Rattle.retimer.specs.Waits.{end_of}
use Rattle.retimer.proofs.waits.ends.Goals as goal

pub returns-then-high-x : goal.returns-then-high-x
unfolding end_of
returns-then-high-x c = omega arith

pub returns : goal.returns
unfolding end_of
returns c = omega arith
