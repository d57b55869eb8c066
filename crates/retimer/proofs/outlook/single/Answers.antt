-- `outlook::single` meets its contract. The invariant: no transition before p ends the action, and `lives` says whether one leads to a live configuration. The measure is what is left of the places. Assumes nothing.
use Rattle.retimer.proofs.Looking.{looking_begun, looking_correct, looking_other, looking_live, looking_dead, looking_extensible, looking_none, left_asked}
use Rattle.retimer.proofs.Left.{left_inside, left_fits}
use Rattle.enforcement.proofs.Loading.{pairs_fit}
use mathlib.Core.Path.{sym, ◌∙◌}
use mathlib.Core.Bool.{false≢true}
use native.Mathlib.Omega.{arith}
use Rattle.retimer.proofs.outlook.single.Goals.{else-loop-p-test, then-loop-p-test+else-end-p-gt7, then-opens+else-target_accepts+then-leads_live, then-opens+else-target_accepts+else-leads_live, else-opens}
use Rattle.retimer.proofs.outlook.single.Goals as goal

pub word_at-start-requires : goal.word_at-start-requires
word_at-start-requires c = omega (arith, pairs_fit _ c.requires.loads, c.requires.standing.in_sheet)

pub word_at-requires : goal.word_at-requires
word_at-requires c = omega (arith, pairs_fit _ c.requires.loads, c.requires.standing.in_sheet)

pub loop-p-init : goal.loop-p-init
loop-p-init c =
    looking_begun c.args.s.now c.args.live.now c.args.c c.args.l c.args.r _ _ _ c.requires c.from.ensures c.word_at-start.ensures.0 c.word_at.ensures.0

pub target_accepts-requires : goal.target_accepts-requires
target_accepts-requires c = let m = c.loop-p.invariant.ends in let h = c.loop-p-test.true in (c.requires.loads, (left_inside m h, left_fits m h))

pub returns-then-target_accepts : goal.returns-then-target_accepts
returns-then-target_accepts c = looking_correct c.loop-p.invariant _ c.loop-p-test.true (c.opens.ensures.0 c.if-opens.true) (sym c.target_accepts.ensures ∙ c.if-target_accepts.true)

pub leads_live-requires : goal.leads_live-requires
leads_live-requires c = left_asked c.requires c.loop-p.invariant.ends c.loop-p-test.true

pub loop-p-preserved : goal.loop-p-preserved
loop-p-preserved c =
    let m = c.loop-p.invariant in
    elim c.if-opens.branch [
      | then-opens+else-target_accepts+then-leads_live w ↦ rw w.lives-is (looking_live m c.loop-p-test.true (c.opens.ensures.0 w.if-opens.true) (sym w.target_accepts.ensures ∙ w.if-target_accepts.false) (w.leads_live.ensures.0 w.if-leads_live.true))
      | then-opens+else-target_accepts+else-leads_live w ↦ rw w.lives-is (looking_dead m c.loop-p-test.true (sym w.target_accepts.ensures ∙ w.if-target_accepts.false) (λ x. false≢true (sym w.if-leads_live.false ∙ w.leads_live.ensures.1 x)))
      | else-opens w ↦ rw w.lives-is (looking_other m c.loop-p-test.true (λ x. false≢true (sym w.if-opens.false ∙ c.opens.ensures.1 x)))
    ]

pub returns-then-lives : goal.returns-then-lives
returns-then-lives c =
    let m = c.loop-p.invariant in
    elim c.loop-p-test.branch [
      | else-loop-p-test w ↦ looking_extensible m _ w.loop-p-test.false (sym w.lives-is ∙ c.if-lives.true)
      | then-loop-p-test+else-end-p-gt7 w ↦ elim w.if-opens.branch [
        | then-opens+else-target_accepts+then-leads_live v ↦ looking_extensible (looking_live m w.loop-p-test.true (w.opens.ensures.0 v.if-opens.true) (sym v.target_accepts.ensures ∙ v.if-target_accepts.false) (v.leads_live.ensures.0 v.if-leads_live.true)) _ (omega arith) (sym v.lives-is ∙ sym w.lives-is ∙ c.if-lives.true)
        | then-opens+else-target_accepts+else-leads_live v ↦ looking_extensible (looking_dead m w.loop-p-test.true (sym v.target_accepts.ensures ∙ v.if-target_accepts.false) (λ x. false≢true (sym v.if-leads_live.false ∙ v.leads_live.ensures.1 x))) _ (omega arith) (sym v.lives-is ∙ sym w.lives-is ∙ c.if-lives.true)
        | else-opens v ↦ looking_extensible (looking_other m w.loop-p-test.true (λ x. false≢true (sym v.if-opens.false ∙ w.opens.ensures.1 x))) _ (omega arith) (sym v.lives-is ∙ sym w.lives-is ∙ c.if-lives.true)
      ]
    ]

pub returns : goal.returns
returns c =
    let m = c.loop-p.invariant in
    elim c.loop-p-test.branch [
      | else-loop-p-test w ↦ looking_none m w.loop-p-test.false (sym w.lives-is ∙ c.if-lives.false) c.none_next.ensures
      | then-loop-p-test+else-end-p-gt7 w ↦ elim w.if-opens.branch [
        | then-opens+else-target_accepts+then-leads_live v ↦ looking_none (looking_live m w.loop-p-test.true (w.opens.ensures.0 v.if-opens.true) (sym v.target_accepts.ensures ∙ v.if-target_accepts.false) (v.leads_live.ensures.0 v.if-leads_live.true)) (omega arith) (sym v.lives-is ∙ sym w.lives-is ∙ c.if-lives.false) c.none_next.ensures
        | then-opens+else-target_accepts+else-leads_live v ↦ looking_none (looking_dead m w.loop-p-test.true (sym v.target_accepts.ensures ∙ v.if-target_accepts.false) (λ x. false≢true (sym v.if-leads_live.false ∙ v.leads_live.ensures.1 x))) (omega arith) (sym v.lives-is ∙ sym w.lives-is ∙ c.if-lives.false) c.none_next.ensures
        | else-opens v ↦ looking_none (looking_other m w.loop-p-test.true (λ x. false≢true (sym v.if-opens.false ∙ w.opens.ensures.1 x))) (omega arith) (sym v.lives-is ∙ sym w.lives-is ∙ c.if-lives.false) c.none_next.ensures
      ]
    ]
