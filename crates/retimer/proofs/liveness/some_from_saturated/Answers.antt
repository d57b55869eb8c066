-- `liveness::some_from_saturated` meets its contract. The invariant: none of the transitions at the places before p leads so. Assumes nothing.
use Rattle.retimer.specs.Live.{Place}
use Rattle.retimer.proofs.LiveTable.{none_begun, none_more, some_found, none_ended}
use Rattle.enforcement.proofs.Loading.{pairs_fit}
use mathlib.Core.Path.{sym, ◌∙◌}
use native.Mathlib.Omega.{arith}
use Rattle.retimer.proofs.liveness.some_from_saturated.Goals as goal
use Rattle.retimer.proofs.liveness.some_from_saturated.Goals.{In-loop-p}

pub word_at-first-requires : goal.word_at-first-requires
word_at-first-requires c = omega (arith, pairs_fit _ c.requires.0, c.requires.1.1)

pub word_at-requires : goal.word_at-requires
word_at-requires c = omega (arith, pairs_fit _ c.requires.0, c.requires.1.1)

place : (c : In-loop-p) → Place c.args.s.now c.args.l c.loop-p.p
place c = record { after = omega (arith, c.loop-p.auto.p, c.word_at-first.ensures.0); inside = omega (arith, c.loop-p-test.true, c.word_at-first.ensures.0, c.word_at.ensures.0); whole = c.loop-p.invariant.0 }

pub returns-then-from_saturated : goal.returns-then-from_saturated
returns-then-from_saturated c = some_found (place (goal.at.returns-then-from_saturated c).In-loop-p) (sym c.from_saturated.ensures ∙ c.if-from_saturated.true)

pub loop-p-preserved : goal.loop-p-preserved
loop-p-preserved c = (omega (arith, c.loop-p.auto.p, c.word_at-first.ensures.0, c.loop-p.invariant.0), none_more (place (goal.at.loop-p-preserved c).In-loop-p) c.loop-p.invariant.1 (sym c.from_saturated.ensures ∙ c.if-from_saturated.false))

pub returns-else-from_saturated : goal.returns-else-from_saturated
returns-else-from_saturated c = none_ended (none_more (place (goal.at.returns-else-from_saturated c).In-loop-p) c.loop-p.invariant.1 (sym c.from_saturated.ensures ∙ c.if-from_saturated.false)) (omega (arith, c.word_at-first.ensures.0, c.word_at.ensures.0))

pub returns : goal.returns
returns c = none_ended c.loop-p.invariant.1 (omega (arith, c.loop-p-test.false, c.word_at-first.ensures.0, c.word_at.ensures.0))
