-- `lamp::is_lit` meets its contract, with and without pending actions.
-- Assumes nothing.
use Rattle.enforcement.specs.Model.{compile}
use Rattle.retimer.specs.Readings.{located}
use Rattle.retimer.proofs.Stuck.{lit_empty, lit_some}
use Rattle.retimer.proofs.lamp.is_lit.Goals as goal

pub returns-then-cs-eq0 : goal.returns-then-cs-eq0
returns-then-cs-eq0 c =
    lit_empty c.args.s.now (located c.args.l c.args.r) c.args.cs.now c.none_next.result c.if-cs-eq0.true c.none_next.ensures

pub returns : goal.returns
returns c =
    lit_some (compile c.args.s.now) (located c.args.l c.args.r) c.args.cs.now c.is_dead.result c.if-cs-eq0.false c.is_dead.ensures
