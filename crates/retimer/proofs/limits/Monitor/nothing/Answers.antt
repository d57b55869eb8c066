-- `Monitor::nothing` meets its contract: it is put together as the definition says.
-- Assumes nothing.
use mathlib.Core.Path.{refl}
use Rattle.retimer.specs.Calls.{no_monitor}
use Rattle.retimer.proofs.limits.Monitor.nothing.Goals as goal

pub returns : goal.returns
unfolding no_monitor
returns c = rw c.initial.ensures refl
