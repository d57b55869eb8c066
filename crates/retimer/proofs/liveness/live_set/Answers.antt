-- `liveness::live_set` meets its contract. The invariant: only transitions whose target is in the set can still take a new configuration into the rows. The measure is by how much the rows can still grow, and one more while the set is not empty. Assumes nothing.
use Rattle.retimer.proofs.LiveTable.{filled_pending, sweep_less, sweeps_ended}
use Rattle.enforcement.proofs.Loading.{size_fits}
use mathlib.Core.Path.{sym}
use native.Mathlib.Omega.{arith}
use Rattle.retimer.proofs.liveness.live_set.Goals as goal

pub bounds-s-1 : goal.bounds-s-1
bounds-s-1 c = omega (arith, size_fits _ c.requires)

pub word_at-gained-requires : goal.word_at-gained-requires
word_at-gained-requires c = omega (arith, size_fits _ c.requires)

pub loop-gained-init : goal.loop-gained-init
loop-gained-init c = filled_pending _ c.requires _ c.word_at-gained.ensures.0 c.fill_each.ensures

pub returns : goal.returns
returns c = sweeps_ended _ c.requires c.loop-gained.invariant c.loop-gained-test.false
