-- `header::accepting_set` meets its contract: the locations from l on are gathered.
-- Assumes nothing.
use mathlib.Core.Path.{sym, ◌∙◌}
use native.Mathlib.Omega.{arith}
use Rattle.product.proofs.Gathering.{gathered_none, gathered_with, gathered_without}
use Rattle.product.proofs.header.accepting_set.Goals as goal

pub loop-l-init : goal.loop-l-init
loop-l-init c =
    let a = c.args in
    gathered_none a.first.now a.second.now c.count-l.result c.count-l.ensures (omega (arith, c.requires.locations_fit))

pub loop-l-preserved-then-accepts : goal.loop-l-preserved-then-accepts
loop-l-preserved-then-accepts c = gathered_with c.loop-l.invariant c.loop-l-test.true (sym c.accepts.ensures ∙ c.if-accepts.true)

pub loop-l-preserved : goal.loop-l-preserved
loop-l-preserved c = gathered_without c.loop-l.invariant c.loop-l-test.true (sym c.accepts.ensures ∙ c.if-accepts.false)
