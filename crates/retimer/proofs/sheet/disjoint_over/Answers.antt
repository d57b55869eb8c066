-- `sheet::disjoint_over` meets its contract. The invariant: the locations from l on decide.
-- Assumes nothing.
use mathlib.Core.Path.{ap, ◌∙◌}
use Prim.Native.Nat.{ℕ}
use native.Mathlib.Omega.{arith}
use Rattle.enforcement.specs.Loading.{disjoint_over}
use Rattle.enforcement.proofs.Pairs.{layout_total, layout_inside}
use Rattle.retimer.proofs.SheetLaws.{failed, passed, disjoint_none, disjoint_stops, disjoint_goes, disjoint_known}
use Rattle.retimer.proofs.sheet.disjoint_over.Goals as goal

pub loop-l-init : goal.loop-l-init
loop-l-init c =
    let s = c.args.s.now in
    (omega arith, ap (λ (n : ℕ). disjoint_over s n 0) (omega arith))

pub word_at-first-requires : goal.word_at-first-requires
word_at-first-requires c = omega (arith, layout_total c.args.s.now c.requires.layout)

pub word_at-n-requires : goal.word_at-n-requires
word_at-n-requires c = omega (arith, layout_total c.args.s.now c.requires.layout)

pub disjoint-requires : goal.disjoint-requires
disjoint-requires c = omega (arith, layout_inside c.args.s.now c.requires.layout c.loop-l.l (omega arith))

pub returns-then-not-disjoint : goal.returns-then-not-disjoint
returns-then-not-disjoint c =
    let s = c.args.s.now in
    let r = c.loop-l in
    disjoint_stops s c.from-count.result r.l (omega arith) (disjoint_known s r.l _ _ (omega arith) c.word_at-first.ensures.0 c.word_at-n.ensures.0 ∙ failed c.disjoint.ensures c.if-not-disjoint.true) ∙ r.invariant.1

pub loop-l-preserved : goal.loop-l-preserved
loop-l-preserved c =
    let s = c.args.s.now in
    let r = c.loop-l in
    (omega arith, disjoint_goes s c.from-count.result r.l (omega arith) (disjoint_known s r.l _ _ (omega arith) c.word_at-first.ensures.0 c.word_at-n.ensures.0 ∙ passed c.disjoint.ensures c.if-not-disjoint.false) ∙ r.invariant.1)

pub returns : goal.returns
returns c = disjoint_none c.args.s.now c.from-count.result c.loop-l.l (omega arith) ∙ c.loop-l.invariant.1
