-- `play::play_at` meets its contract. Assumes nothing.
use Prim.Native.Nat.{◌+◌, ◌*◌, ◌<◌}
use mathlib.Core.Path.{◌≡◌}
use Rattle.retimer.proofs.sets.Setting.{playing_begun, playing_fits, playing_passed, playing_taken}
use Rattle.enforcement.proofs.Loading.{pairs_fit}
use native.Mathlib.Omega.{arith}
use Rattle.retimer.proofs.sets.play.play_at.Goals as goal
use Rattle.retimer.proofs.sets.play.play_at.Goals.{then-s-p, else-s-p}

pub word_at-first-requires : goal.word_at-first-requires
word_at-first-requires c = omega (arith, pairs_fit _ c.requires.0.loads)

pub word_at-size-requires : goal.word_at-size-requires
word_at-size-requires c = omega (arith, pairs_fit _ c.requires.0.loads)

pub loop-k-init : goal.loop-k-init
loop-k-init c =
    let here : c.word_at-first.result + 0 ≡ c.word_at-first.result = omega arith in
    rw here (playing_begun _ _ _ _ _ _ _ c.requires.0 c.requires.1 c.word_at-first.ensures.0 c.word_at-size.ensures.0)

pub fire_into-found-requires : goal.fire_into-found-requires
fire_into-found-requires c =
    let h = c.loop-k.invariant in
    let q = c.requires.0 in
    let inside : c.word_at-first.result + 7 * c.loop-k.k < c.word_at-first.result + c.word_at-size.result = omega (arith, c.loop-k-test.true) in
    (record { loads = q.loads; source = q.source; readings = q.readings; target = h.whole }, (omega (arith, h.inside, h.multiple), playing_fits h inside))

pub loop-k-preserved : goal.loop-k-preserved
loop-k-preserved c =
    let h = c.loop-k.invariant in
    let inside : c.word_at-first.result + 7 * c.loop-k.k < c.word_at-first.result + c.word_at-size.result = omega (arith, c.loop-k-test.true) in
    let next : c.word_at-first.result + 7 * (c.loop-k.k + 1) ≡ c.word_at-first.result + 7 * c.loop-k.k + 7 = omega arith in
    rw next (elim c.if-s-p.branch [
      | then-s-p w ↦ rw (w.next-is, w.found-is) (playing_taken h _ _ inside w.if-s-p.true w.fire_into-found.ensures)
      | else-s-p w ↦ rw (w.next-is, w.found-is) (playing_passed h inside w.if-s-p.false)
    ])
