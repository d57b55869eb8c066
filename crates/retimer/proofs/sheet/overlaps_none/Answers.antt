-- `sheet::overlaps_none` meets its contract. The invariant: the transitions from the k-th on decide.
-- Assumes nothing.
use mathlib.Core.Path.{◌∙◌}
use Prim.Native.Nat.{◌+◌}
use native.Mathlib.Omega.{arith}
use Rattle.enforcement.specs.Automaton.{transition_at}
use Rattle.retimer.proofs.SheetLaws.{found, missed, overlap_each, each_all, each_none, each_stops, each_goes}
use Rattle.retimer.proofs.sheet.overlaps_none.Goals as goal

pub loop-k-init : goal.loop-k-init
loop-k-init c =
    let a = c.args in
    each_all (overlap_each (transition_at a.s.now a.p)) a.s.now a.n (a.p + 7) 0

pub returns-then-overlap : goal.returns-then-overlap
returns-then-overlap c =
    let a = c.args in
    let r = c.loop-k in
    each_stops (overlap_each (transition_at a.s.now a.p)) a.s.now a.n (a.p + 7) r.k (omega arith) (found c.overlap.ensures c.if-overlap.true) ∙ r.invariant

pub loop-k-preserved : goal.loop-k-preserved
loop-k-preserved c =
    let a = c.args in
    let r = c.loop-k in
    each_goes (overlap_each (transition_at a.s.now a.p)) a.s.now a.n (a.p + 7) r.k (omega arith) (missed c.overlap.ensures c.if-overlap.false) ∙ r.invariant

pub returns : goal.returns
returns c =
    let a = c.args in
    let r = c.loop-k in
    each_none (overlap_each (transition_at a.s.now a.p)) a.s.now a.n (a.p + 7) r.k (omega arith) ∙ r.invariant
