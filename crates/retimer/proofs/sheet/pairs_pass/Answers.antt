-- `sheet::pairs_pass` meets its contract. The invariant: the pairs from l on decide, where the transitions before them end at end.
-- Assumes nothing.
use mathlib.Core.Path.{ap₂, ◌∙◌}
use Prim.Native.Nat.{ℕ}
use native.Mathlib.Omega.{arith}
use Rattle.enforcement.specs.Loading.{pairs_pass}
use Rattle.retimer.proofs.SheetLaws.{pairs_apart, pairs_broken, pairs_go, pairs_end}
use Rattle.retimer.proofs.sheet.pairs_pass.Goals as goal

pub loop-l-init : goal.loop-l-init
loop-l-init c =
    let s = c.args.s.now in
    (omega arith, (omega arith, ap₂ (λ (n e : ℕ). pairs_pass s n 0 e) (omega arith) c.first_place-end.ensures))

pub returns-then-word_at-end : goal.returns-then-word_at-end
returns-then-word_at-end c =
    let r = c.loop-l in
    let s = c.args.s.now in
    pairs_apart s c.from-count.result r.l (omega arith) c.word_at.result r.end c.word_at.ensures.0 c.if-word_at-end.true ∙ r.invariant.1.1

pub returns-then-size-ne0 : goal.returns-then-size-ne0
returns-then-size-ne0 c =
    let r = c.loop-l in
    let s = c.args.s.now in
    pairs_broken s c.from-count.result r.l (omega arith) c.word_at.result r.end c.word_at.ensures.0 c.if-word_at-end.false c.word_at-size.result c.word_at-size.ensures.0 c.if-size-ne0.true ∙ r.invariant.1.1

pub loop-l-preserved : goal.loop-l-preserved
loop-l-preserved c =
    let r = c.loop-l in
    let s = c.args.s.now in
    (omega arith, (omega arith, pairs_go s c.from-count.result r.l (omega arith) c.word_at.result r.end c.word_at.ensures.0 c.if-word_at-end.false c.word_at-size.result c.word_at-size.ensures.0 c.if-size-ne0.false ∙ r.invariant.1.1))

pub returns : goal.returns
returns c =
    let r = c.loop-l in
    pairs_end c.args.s.now c.from-count.result r.l r.end (omega arith) ∙ r.invariant.1.1
