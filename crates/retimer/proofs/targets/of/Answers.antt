-- `targets::of` meets its contract. The invariant: with the targets of the transitions from p on, the set has all. Assumes nothing.
use Prim.Native.Nat.{◌+◌}
use native.Mathlib.Omega.{arith}
use Rattle.enforcement.proofs.Loading.{header, pairs_fit}
use Rattle.retimer.proofs.Entering.{InTargets, targets_begun, targets_inside, targets_fits, targets_taken, targets_passed, targets_done}
use Rattle.retimer.proofs.targets.of.Goals as goal
use Rattle.retimer.proofs.targets.of.Goals.{then-s-p, else-s-p, Joined-s-p}

pub word_at-first-requires : goal.word_at-first-requires
word_at-first-requires c = omega (arith, c.requires.1, pairs_fit _ c.requires.0)

pub word_at-requires : goal.word_at-requires
word_at-requires c = omega (arith, c.requires.1, pairs_fit _ c.requires.0)

pub loop-p-init : goal.loop-p-init
loop-p-init c = targets_begun c.args.c c.requires.0 c.requires.1 c.word_at-first.ensures.0 c.word_at.ensures.0

pub bounds-s-p : goal.bounds-s-p
bounds-s-p c = omega (arith, targets_inside c.loop-p.invariant c.loop-p-test.true)

pub bounds-s-p-then-s-p : goal.bounds-s-p-then-s-p
bounds-s-p-then-s-p c = omega (arith, targets_inside c.loop-p.invariant c.loop-p-test.true)

pub with-found-requires : goal.with-found-requires
with-found-requires c = omega (arith, c.from.ensures, (targets_fits c.loop-p.invariant c.loop-p-test.true).target_fits, (header _ c.requires.0).locations_fit)

-- What holds after an iteration, whether another follows or not.
after : (c : Joined-s-p) → InTargets c.args.s.now c.args.c c.args.l c.if-s-p.found (c.loop-p.p + 7) (c.word_at-first.result + c.word_at.result)
after c =
    let w = c.loop-p.invariant in
    elim c.if-s-p.branch [
      | then-s-p t ↦ rw t.found-is (targets_taken w c.loop-p-test.true t.if-s-p.true t.from.ensures t.with-found.ensures)
      | else-s-p t ↦ rw t.found-is (targets_passed w c.loop-p-test.true t.if-s-p.false)
    ]

pub loop-p-preserved : goal.loop-p-preserved
loop-p-preserved c = after (goal.at.loop-p-preserved c).Joined-s-p

pub returns-after-s-p : goal.returns-after-s-p
returns-after-s-p c = targets_done (after (goal.at.returns-after-s-p c).Joined-s-p) c.requires.0 (omega arith)

pub returns : goal.returns
returns c = targets_done c.loop-p.invariant c.requires.0 c.loop-p-test.false
