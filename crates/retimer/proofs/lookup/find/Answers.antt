-- `lookup::find` meets its contract. Assumes nothing.
use Rattle.retimer.specs.Readings.{located}
use Rattle.retimer.proofs.Transitions.{Remaining, begun_at, passed, taken_here, exhausted}
use Rattle.enforcement.proofs.Loading.{pairs_fit}
use Prim.Native.Nat.{ℕ, ◌+◌, ◌*◌, ◌<◌}
use mathlib.Core.Path.{◌≡◌, sym, ◌∙◌, subst}
use native.Mathlib.Omega.{arith}
use Rattle.retimer.proofs.lookup.find.Goals as goal

pub word_at-start-requires : goal.word_at-start-requires
word_at-start-requires c = omega (arith, pairs_fit _ c.requires.0)

pub word_at-size-requires : goal.word_at-size-requires
word_at-size-requires c = omega (arith, pairs_fit _ c.requires.0)

pub loop-k-init : goal.loop-k-init
loop-k-init c =
    let here : c.word_at-start.result + 0 ≡ c.word_at-start.result = omega arith in
    rw here (begun_at _ _ _ _ _ _ _ _ c.requires.0 c.requires.1.in_sheet c.from.ensures c.word_at-start.ensures.0 c.word_at-size.ensures.0)

pub returns-then-applies : goal.returns-then-applies
returns-then-applies c =
    let inside : c.word_at-start.result + 7 * c.loop-k.k < c.word_at-start.result + c.word_at-size.result = omega (arith, c.loop-k-test.true) in
    taken_here c.loop-k.invariant inside (sym c.applies.ensures ∙ c.if-applies.true)

pub loop-k-preserved : goal.loop-k-preserved
loop-k-preserved c =
    let inside : c.word_at-start.result + 7 * c.loop-k.k < c.word_at-start.result + c.word_at-size.result = omega (arith, c.loop-k-test.true) in
    let rest = passed c.loop-k.invariant inside (sym c.applies.ensures ∙ c.if-applies.false) in
    subst (λ (n : ℕ). Remaining c.args.s.now c.args.c (located c.args.l c.args.r) n (c.word_at-start.result + c.word_at-size.result)) (omega arith) rest

pub returns : goal.returns
returns c = exhausted c.loop-k.invariant (omega (arith, c.loop-k-test.false, c.loop-k.invariant.before, c.loop-k.invariant.whole))
