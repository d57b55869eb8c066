-- `sheet::all_fit` meets its contract. The invariant: the transitions from the k-th on decide, and all are in the bytes.
-- Assumes nothing.
use mathlib.Core.Path.{ap, ◌∙◌}
use native.Mathlib.Omega.{arith}
use Rattle.enforcement.specs.Loading.{all_fit}
use Rattle.enforcement.proofs.Pairs.{layout_total}
use Rattle.retimer.proofs.SheetLaws.{failed, passed, all_from, fit_each, each_all, each_none, each_stops, each_goes}
use Rattle.retimer.proofs.sheet.all_fit.Goals as goal

pub loop-k-init : goal.loop-k-init
loop-k-init c =
    let s = c.args.s.now in
    let y = c.requires.layout in
    (omega (arith, layout_total s y), each_all (fit_each s) s _ _ 0 ∙ ap (all_fit s) (all_from s y _ _ c.transition_count-n.ensures c.first_place-first.ensures))

pub returns-then-not-fits : goal.returns-then-not-fits
returns-then-not-fits c =
    let s = c.args.s.now in
    let r = c.loop-k in
    each_stops (fit_each s) s c.transition_count-n.result c.first_place-first.result r.k (omega arith) (failed c.fits.ensures c.if-not-fits.true) ∙ r.invariant.1

pub loop-k-preserved : goal.loop-k-preserved
loop-k-preserved c =
    let s = c.args.s.now in
    let r = c.loop-k in
    (omega arith, each_goes (fit_each s) s c.transition_count-n.result c.first_place-first.result r.k (omega arith) (passed c.fits.ensures c.if-not-fits.false) ∙ r.invariant.1)

pub returns : goal.returns
returns c =
    let s = c.args.s.now in
    let r = c.loop-k in
    each_none (fit_each s) s c.transition_count-n.result c.first_place-first.result r.k (omega arith) ∙ r.invariant.1
