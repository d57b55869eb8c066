-- `Monitor::fresh` meets its contract: what is put together is a fresh box.
-- Assumes nothing.
use mathlib.Core.Logic.{inl, inr}
use mathlib.Core.Path.{refl}
use mathlib.Core.List.{[]}
use native.Mathlib.Omega.{arith}
use Rattle.enforcement.proofs.Loading.{size_fits, loads_formed}
use Rattle.retimer.proofs.Loads.{second_is, fresh_asked, fresh_right}
use Rattle.retimer.proofs.Stuck.{lit_empty}
use Rattle.retimer.proofs.limits.Monitor.fresh.Goals as goal
use Rattle.retimer.proofs.limits.Monitor.fresh.Goals.{then-s-eq1, else-s-eq1}

pub live_table-live-requires : goal.live_table-live-requires
live_table-live-requires c = loads_formed c.args.s.now c.args.loaded c.requires

pub copied-bytes-requires : goal.copied-bytes-requires
copied-bytes-requires c = (size_fits c.args.s.now (loads_formed c.args.s.now c.args.loaded c.requires)).1

pub bounds-s-1 : goal.bounds-s-1
bounds-s-1 c = omega (arith, size_fits c.args.s.now (loads_formed c.args.s.now c.args.loaded c.requires))

pub bounds-s-3 : goal.bounds-s-3
bounds-s-3 c = omega (arith, size_fits c.args.s.now (loads_formed c.args.s.now c.args.loaded c.requires))

pub none_next-lit-requires : goal.none_next-lit-requires
none_next-lit-requires c =
    fresh_asked c.args.s.now c.if-s-eq1.second (loads_formed c.args.s.now c.args.loaded c.requires) (second_is c.args.s.now c.if-s-eq1.second (elim c.if-s-eq1.branch [ then-s-eq1 w ↦ inl (w.if-s-eq1.true, w.second-is) | else-s-eq1 w ↦ inr (w.if-s-eq1.false, w.second-is) ])) c.live_table-live.ensures

pub returns : goal.returns
returns c =
    let l = c.live_table-live in
    let k = c.copied-bytes in
    let n = c.none_next-lit in
    rw c.initial.ensures
    (fresh_right c.args.s.now c.args.loaded k.result l.result.counts c.if-s-eq1.second n.result c.requires k.ensures.0 (second_is c.args.s.now c.if-s-eq1.second (elim c.if-s-eq1.branch [ then-s-eq1 w ↦ inl (w.if-s-eq1.true, w.second-is) | else-s-eq1 w ↦ inr (w.if-s-eq1.false, w.second-is) ])) k.ensures.1 l.ensures
    (lit_empty c.args.s.now _ [] n.result refl n.ensures))
