-- `liveness::sweep` meets its contract. The invariant: the locations from l on are done. Assumes nothing.
use Rattle.retimer.proofs.LiveTable.{sweep_begun, sweep_more, sweep_none, sweep_ended}
use Rattle.enforcement.proofs.Bits.{bit_of_or, or_shown}
use Rattle.enforcement.proofs.Loading.{header, size_fits}
use mathlib.Core.Logic.{inl}
use mathlib.Core.Path.{sym, ◌∙◌}
use native.Mathlib.Omega.{arith}
use Rattle.retimer.proofs.liveness.sweep.Goals as goal

pub bounds-s-0 : goal.bounds-s-0
bounds-s-0 c = omega (arith, size_fits _ c.requires.0)

pub with-next-requires : goal.with-next-requires
with-next-requires c = omega (arith, (header _ c.requires.0).locations_fit, c.loop-l-test.true, c.loop-l.auto.l, c.from-l.ensures)

pub loop-l-preserved-then-improve : goal.loop-l-preserved-then-improve
loop-l-preserved-then-improve c = sweep_more _ c.requires.0 (λ j e. bit_of_or _ _ j ∙ or_shown _ _ (inl e)) c.loop-l-test.true (omega (arith, c.loop-l.auto.l, c.from-l.ensures)) c.loop-l.invariant c.improve.ensures _ c.if-improve.true c.with-next.ensures

pub loop-l-preserved : goal.loop-l-preserved
loop-l-preserved c = sweep_none _ c.requires.0 (λ j e. bit_of_or _ _ j ∙ or_shown _ _ (inl e)) c.loop-l-test.true (omega (arith, c.loop-l.auto.l, c.from-l.ensures)) c.loop-l.invariant c.improve.ensures c.if-improve.false
