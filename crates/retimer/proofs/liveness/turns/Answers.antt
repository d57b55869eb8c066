-- `liveness::turns` meets its contract. The invariant: the transitions at the places before p are settled. Assumes nothing.
use Prim.Native.Nat.{◌+◌}
use Rattle.retimer.specs.Live.{Place, Turns}
use Rattle.retimer.proofs.LiveTable.{turns_begun, turns_more, turns_same, turns_ended}
use Rattle.enforcement.proofs.Loading.{header, pairs_fit}
use mathlib.Core.Path.{sym, ◌∙◌}
use native.Mathlib.Omega.{arith}
use Rattle.retimer.proofs.liveness.turns.Goals as goal
use Rattle.retimer.proofs.liveness.turns.Goals.{In-loop-p, then-turn, else-turn, Joined-turn}

pub word_at-first-requires : goal.word_at-first-requires
word_at-first-requires c = omega (arith, pairs_fit _ c.requires.0, c.requires.1.1.0)

pub word_at-requires : goal.word_at-requires
word_at-requires c = omega (arith, pairs_fit _ c.requires.0, c.requires.1.1.0)

place : (c : In-loop-p) → Place c.args.s.now c.args.l c.loop-p.p
place c = record { after = omega (arith, c.loop-p.auto.p, c.word_at-first.ensures.0); inside = omega (arith, c.loop-p-test.true, c.word_at-first.ensures.0, c.word_at.ensures.0); whole = c.loop-p.invariant.0 }

-- What holds after an iteration, whether another follows or not.
after : (c : Joined-turn) → Place c.args.s.now c.args.l c.loop-p.p → Turns c.args.s.now c.args.set.now c.turn.new.set c.args.l c.args.gained (c.loop-p.p + 7) c.if-turn.changed
after c r = elim c.if-turn.branch [
  | then-turn w ↦ rw w.changed-is (turns_more _ c.requires.0 r c.loop-p.invariant.1 c.turn.ensures w.if-turn.true)
  | else-turn w ↦ rw w.changed-is (turns_same _ c.requires.0 r c.loop-p.invariant.1 c.turn.ensures w.if-turn.false)
]

pub loop-p-preserved : goal.loop-p-preserved
loop-p-preserved c = (omega (arith, c.loop-p.auto.p, c.word_at-first.ensures.0, c.loop-p.invariant.0), after (goal.at.loop-p-preserved c).Joined-turn (place (goal.at.loop-p-preserved c).In-loop-p))

pub returns-after-turn : goal.returns-after-turn
returns-after-turn c = turns_ended _ c.requires.0 (after (goal.at.returns-after-turn c).Joined-turn (place (goal.at.returns-after-turn c).In-loop-p)) (omega (arith, c.word_at-first.ensures.0, c.word_at.ensures.0))
