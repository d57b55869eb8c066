-- `clocks::after_ticks` meets its contract: the readings stay saturated ones.
-- Assumes nothing.
use Rattle.retimer.specs.Readings.{Readings}
use Rattle.layers.proofs.clocks.after_ticks.Given as goal

abbrev pub invariant-loop : goal.invariant-loop
invariant-loop l = Readings l.r
