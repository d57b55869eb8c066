-- The search along chains gives the least ticks and keeps the memos right. It falls by the actions left, then by the order after, chain, play, leave, rule, over.
-- Assumes nothing.
use native.Mathlib.Omega.{arith}
use mathlib.Core.Path.{◌≡◌, refl, ap, ◌∙◌}
use mathlib.Core.Bool.{cond}
use lib.ListN.{get_or}
use Rattle.enforcement.specs.Automaton.{accepting, transition_at}
use Rattle.enforcement.proofs.Loading.{header, pairs_fit}
use Rattle.retimer.specs.Costs.{configuration, just_reset}
use Rattle.retimer.proofs.CostLaws.{cost_most}
use Rattle.retimer.proofs.Memos.{place_asked, place_inside, known_cost, noted_first, noted_second}
use Rattle.retimer.proofs.Rules.{rule_last, rule_on, over_asked, rule_reset}
use Rattle.retimer.proofs.Searching.{over_cut, over_next, leave_begun, leave_searching, leave_inside, leave_fits, leave_next, leave_done, play_begun, play_searching, lowest_in, play_next, play_done, chain_begun, chain_next, chain_done}
use Prim.Native.Nat.{ℕ, ◌+◌, ◌*◌, ◌<◌}
use Rattle.retimer.proofs.costs.+after_chain_leave_over_play_rule.Goals.{after-then-clock, after-else-clock}
use Rattle.retimer.proofs.costs.+after_chain_leave_over_play_rule.Goals as goal

pub after-place-i-requires : goal.after-place-i-requires
after-place-i-requires t c = place_asked c.requires

pub after-bounds-second-i : goal.after-bounds-second-i
after-bounds-second-i t c = place_inside c.requires c.requires.ground.after_second c.place-i.ensures

pub after-bounds-first-i : goal.after-bounds-first-i
after-bounds-first-i t c = place_inside c.requires c.requires.ground.after_first c.place-i.ensures

pub after-returns-then-known-gt0 : goal.after-returns-then-known-gt0
after-returns-then-known-gt0 t c =
    elim c.if-clock.branch [
      | after-then-clock w ↦ rw w.known-is (known_cost c.requires w.if-clock.true c.requires.ground.after_second c.place-i.ensures (rw w.known-is at c.if-known-gt0.true))
      | after-else-clock w ↦ rw w.known-is (known_cost c.requires w.if-clock.false c.requires.ground.after_first c.place-i.ensures (rw w.known-is at c.if-known-gt0.true))
    ]

pub after-overflow_add-second : goal.after-overflow_add-second
after-overflow_add-second t c =
    let e = c.chain-v.ensures in
    omega (arith, e.value_is, cost_most c.args.s.now c.args.cs.now c.args.k (configuration c.args.l c.if-clock.known.1 c.if-clock.known.2) e.ground.few)

pub after-bounds-second-i-then-clock-2 : goal.after-bounds-second-i-then-clock-2
after-bounds-second-i-then-clock-2 t c = place_inside c.requires c.chain-v.ensures.ground.after_second c.place-i.ensures

pub after-returns-then-clock-2 : goal.after-returns-then-clock-2
after-returns-then-clock-2 t c =
    noted_second c.requires c.if-clock-2.true c.place-i.ensures
    (elim c.if-clock.branch [
      | after-then-clock w ↦ rw w.if-clock.true (rw w.known-is at c.chain-v.ensures)
      | after-else-clock w ↦ rw w.if-clock.false (rw w.known-is at c.chain-v.ensures)
    ])

pub after-overflow_add-first : goal.after-overflow_add-first
after-overflow_add-first t c =
    let e = c.chain-v.ensures in
    omega (arith, e.value_is, cost_most c.args.s.now c.args.cs.now c.args.k (configuration c.args.l c.if-clock.known.1 c.if-clock.known.2) e.ground.few)

pub after-bounds-first-i-else-clock-2 : goal.after-bounds-first-i-else-clock-2
after-bounds-first-i-else-clock-2 t c = place_inside c.requires c.chain-v.ensures.ground.after_first c.place-i.ensures

pub after-returns-else-clock-2 : goal.after-returns-else-clock-2
after-returns-else-clock-2 t c =
    noted_first c.requires c.if-clock-2.false c.place-i.ensures
    (elim c.if-clock.branch [
      | after-then-clock w ↦ rw w.if-clock.true (rw w.known-is at c.chain-v.ensures)
      | after-else-clock w ↦ rw w.if-clock.false (rw w.known-is at c.chain-v.ensures)
    ])

pub chain-with-requires : goal.chain-with-requires
chain-with-requires t c = omega (arith, c.from.ensures, c.requires.1, (header c.args.s.now c.requires.0.ground.loads).locations_fit)

pub chain-loop-front-init : goal.chain-loop-front-init
chain-loop-front-init t c = chain_begun c.requires.0 c.requires.1 c.from.ensures c.with.ensures

pub chain-loop-front-preserved : goal.chain-loop-front-preserved
chain-loop-front-preserved t c = let f = c.play-front in chain_next c.requires.0 c.loop-front.invariant c.loop-front-test.true f.ensures f.auto.first f.auto.second

pub chain-returns : goal.chain-returns
chain-returns t c = chain_done c.requires.0 c.loop-front.invariant c.loop-front-test.false

pub leave-word_at-start-requires : goal.leave-word_at-start-requires
leave-word_at-start-requires t c = let b = c.requires in omega (arith, c.from.ensures, b.1.1, pairs_fit c.args.s.now b.0.ground.loads)

pub leave-word_at-size-requires : goal.leave-word_at-size-requires
leave-word_at-size-requires t c = let b = c.requires in omega (arith, c.from.ensures, b.1.1, pairs_fit c.args.s.now b.0.ground.loads)

pub leave-loop-i-init : goal.leave-loop-i-init
leave-loop-i-init t c =
    let here : c.word_at-start.result + 0 ≡ c.word_at-start.result = omega arith in
    rw here (leave_begun c.requires.0 c.requires.1.0 c.requires.1.1 c.from.ensures c.word_at-start.ensures.0 c.word_at-size.ensures.0)

pub leave-rule-found-requires : goal.leave-rule-found-requires
leave-rule-found-requires t c =
    let h = c.loop-i.invariant in
    let a = c.requires.0 in
    let inside : c.word_at-start.result + 7 * c.loop-i.i < c.word_at-start.result + c.word_at-size.result = omega (arith, c.loop-i-test.true) in
    (omega (arith, c.decreases), (leave_searching a h, (h.chain, (leave_inside a h inside, leave_fits a h inside))))

pub leave-loop-i-preserved : goal.leave-loop-i-preserved
leave-loop-i-preserved t c =
    let f = c.rule-found in
    let inside : c.word_at-start.result + 7 * c.loop-i.i < c.word_at-start.result + c.word_at-size.result = omega (arith, c.loop-i-test.true) in
    let next : c.word_at-start.result + 7 * (c.loop-i.i + 1) ≡ c.word_at-start.result + 7 * c.loop-i.i + 7 = omega arith in
    rw next (leave_next c.requires.0 c.loop-i.invariant inside f.ensures f.auto.next f.auto.first f.auto.second)

pub leave-returns : goal.leave-returns
leave-returns t c =
    let h = c.loop-i.invariant in
    let w = h.left 0 (omega arith) in
    leave_done c.requires.0 h (omega (arith, c.loop-i-test.false, w.before, w.whole))

pub over-returns-then-v-u : goal.over-returns-then-v-u
over-returns-then-v-u t c = over_cut c.requires c.loop-i.invariant (omega (arith, c.if-v-u.true))

pub over-overflow_add-c : goal.over-overflow_add-c
over-overflow_add-c t c =
    let e = c.after.ensures in
    omega (arith, e.value_is, cost_most c.args.s.now c.args.cs.now (c.args.k + 1) (just_reset c.args.clock c.args.t (c.args.z + c.loop-i.i)) e.ground.few, c.loop-i-test.true, c.requires.readings_fit, c.requires.from_fits)

pub over-loop-i-preserved : goal.over-loop-i-preserved
over-loop-i-preserved t c = let f = c.after in over_next c.requires c.loop-i.invariant c.loop-i-test.true f.ensures c.from-u.ensures (omega arith) f.auto.first f.auto.second

pub play-loop-left-init : goal.play-loop-left-init
play-loop-left-init t c = play_begun c.requires.0 c.requires.1.0 c.requires.1.1

pub play-leave-found-requires : goal.play-leave-found-requires
play-leave-found-requires t c =
    let a = c.requires.0 in
    let g = c.requires.1.0 in
    let h = c.loop-left.invariant in
    let q = c.loop-left-test.true in
    (omega (arith, c.decreases), (play_searching a g h, (h.chain, lowest_in a g h q)))

pub play-loop-left-preserved : goal.play-loop-left-preserved
play-loop-left-preserved t c =
    let f = c.leave-found in
    play_next c.requires.0 c.requires.1.0 c.loop-left.invariant c.loop-left-test.true refl (ap (λ (i : ℕ). get_or c.args.here.now i 0) c.from.ensures) f.ensures f.auto.next f.auto.first f.auto.second

pub play-returns : goal.play-returns
play-returns t c = play_done c.requires.0 c.requires.1.0 c.loop-left.invariant (λ l. omega (arith, c.loop-left-test.false))

pub rule-finish-requires : goal.rule-finish-requires
rule-finish-requires t c =
    let b = c.requires in
    (b.0.ground.loads, omega (arith, c.from.ensures, (header c.args.s.now b.0.ground.loads).locations_fit, b.1.1.1.target_fits))

pub rule-returns-then-k-cs : goal.rule-returns-then-k-cs
rule-returns-then-k-cs t c =
    rule_last c.requires.0 c.requires.1.0 (transition_at c.args.s.now c.args.p) c.args.e c.first_wait.ensures c.max-from.ensures c.end_wait-end.ensures c.if-s-p.false c.if-end-from.false c.requires.1.1.1 c.if-front-from.false c.if-k-cs.true c.finish.ensures.0 (c.finish.ensures.1 ∙ ap (λ (i : ℕ). cond (accepting c.args.s.now i) c.max-from.result c.args.front.best) c.from.ensures)

pub rule-reach-requires : goal.rule-reach-requires
rule-reach-requires t c =
    let b = c.requires in
    let n = (header c.args.s.now b.0.ground.loads).locations_fit in
    (omega (arith, c.from-then-set-eq0.ensures, b.1.1.1.target_fits, b.1.0.each), omega (arith, c.from-then-set-eq0.ensures, b.1.1.1.target_fits))

pub rule-returns-then-set-eq0 : goal.rule-returns-then-set-eq0
rule-returns-then-set-eq0 t c =
    rule_on c.requires.0 c.requires.1.0 (transition_at c.args.s.now c.args.p) c.args.e c.first_wait.ensures c.max-from.ensures c.end_wait-end.ensures c.if-s-p.false c.if-end-from.false c.requires.1.1.1 c.if-k-cs.false c.if-set-eq0.true c.from-then-set-eq0.ensures c.reach.ensures.0 c.reach.ensures.1

pub rule-over-best-requires : goal.rule-over-best-requires
rule-over-best-requires t c =
    (omega (arith, c.decreases), over_asked c.requires.0 c.requires.1.0 (transition_at c.args.s.now c.args.p) c.args.e c.first_wait.ensures c.max-from.ensures c.end_wait-end.ensures c.if-s-p.false c.if-end-from.false c.requires.1.1.1 c.if-k-cs.false c.if-set-eq0.false c.kept-z.ensures.0 c.kept-z.ensures.1 c.worth-n.ensures)

pub rule-returns : goal.rule-returns
rule-returns t c =
    rule_reset c.requires.0 c.requires.1.0 (transition_at c.args.s.now c.args.p) c.args.e c.first_wait.ensures c.max-from.ensures c.end_wait-end.ensures c.if-s-p.false c.if-end-from.false c.requires.1.1.1 c.if-k-cs.false c.if-set-eq0.false c.kept-z.ensures.0 c.kept-z.ensures.1 c.worth-n.ensures c.over-best.ensures
