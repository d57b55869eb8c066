-- `outlook::none_next` meets its contract. The invariant: no transition before p leads to a live configuration. The measure is what is left of the places. Assumes nothing.
use Rattle.retimer.proofs.Looking.{nexting_begun, nexting_found, nexting_passed, nexting_none, left_asked}
use Rattle.enforcement.proofs.Loading.{pairs_fit}
use mathlib.Core.Path.{sym, ◌∙◌}
use mathlib.Core.Bool.{false≢true}
use native.Mathlib.Omega.{arith}
use Rattle.retimer.proofs.outlook.none_next.Goals as goal

pub word_at-start-requires : goal.word_at-start-requires
word_at-start-requires c = omega (arith, pairs_fit _ c.requires.loads, c.requires.standing.in_sheet)

pub word_at-requires : goal.word_at-requires
word_at-requires c = omega (arith, pairs_fit _ c.requires.loads, c.requires.standing.in_sheet)

pub loop-p-init : goal.loop-p-init
loop-p-init c =
    nexting_begun c.args.s.now c.args.live.now c.args.l c.args.r _ _ _ c.requires c.from.ensures c.word_at-start.ensures.0 c.word_at.ensures.0

pub leads_live-requires : goal.leads_live-requires
leads_live-requires c = left_asked c.requires c.loop-p.invariant.left c.loop-p-test.true

pub returns-then-leads_live : goal.returns-then-leads_live
returns-then-leads_live c = nexting_found c.loop-p.invariant c.loop-p-test.true (c.leads_live.ensures.0 c.if-leads_live.true)

pub loop-p-preserved : goal.loop-p-preserved
loop-p-preserved c = nexting_passed c.loop-p.invariant c.loop-p-test.true (λ w. false≢true (sym c.if-leads_live.false ∙ c.leads_live.ensures.1 w))

pub returns : goal.returns
returns c = nexting_none c.loop-p.invariant c.loop-p-test.false

pub returns-else-leads_live : goal.returns-else-leads_live
returns-else-leads_live c = nexting_none (nexting_passed c.loop-p.invariant c.loop-p-test.true (λ w. false≢true (sym c.if-leads_live.false ∙ c.leads_live.ensures.1 w))) (omega arith)
