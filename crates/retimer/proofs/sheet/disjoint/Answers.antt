-- `sheet::disjoint` meets its contract. The invariant: the transitions from the k-th on decide.
-- Assumes nothing.
use mathlib.Core.Path.{◌∙◌}
use native.Mathlib.Omega.{arith}
use Rattle.retimer.proofs.SheetLaws.{failed, passed, after_step, disjoint_each, each_all, each_none, each_stops, each_goes}
use Rattle.retimer.proofs.sheet.disjoint.Goals as goal

pub loop-k-init : goal.loop-k-init
loop-k-init c = each_all disjoint_each c.args.s.now c.args.n c.args.first 0

pub returns-then-not-overlaps_none : goal.returns-then-not-overlaps_none
returns-then-not-overlaps_none c =
    let a = c.args in
    let r = c.loop-k in
    each_stops disjoint_each a.s.now a.n a.first r.k (omega arith) (after_step a.s.now a.n a.first r.k ∙ failed c.overlaps_none.ensures c.if-not-overlaps_none.true) ∙ r.invariant

pub loop-k-preserved : goal.loop-k-preserved
loop-k-preserved c =
    let a = c.args in
    let r = c.loop-k in
    each_goes disjoint_each a.s.now a.n a.first r.k (omega arith) (after_step a.s.now a.n a.first r.k ∙ passed c.overlaps_none.ensures c.if-not-overlaps_none.false) ∙ r.invariant

pub returns : goal.returns
returns c =
    let a = c.args in
    let r = c.loop-k in
    each_none disjoint_each a.s.now a.n a.first r.k (omega arith) ∙ r.invariant
