-- `play::play` meets its contract. The invariant: the next set has what the first l locations lead to, their rows are waited, and the rows of the others are as they were. Assumes nothing.
use Rattle.retimer.proofs.sets.Landing.{reached_covers, elapsed_all, played_all}
use Rattle.retimer.proofs.sets.Stepping.{underway_begun, underway_passed, underway_more}
use Rattle.enforcement.proofs.Loading.{header, size_fits}
use Rattle.enforcement.specs.Automaton.{locations}
use mathlib.Core.Path.{◌≡◌, sym, ◌∙◌}
use native.Mathlib.Omega.{arith}
use Rattle.retimer.proofs.sets.play.play.Goals as goal
use Rattle.retimer.proofs.sets.play.play.Goals.{then-has, else-has}

pub bounds-s-0 : goal.bounds-s-0
bounds-s-0 c = omega (arith, size_fits _ c.requires.0)

pub loop-l-init : goal.loop-l-init
loop-l-init c = underway_begun _ _ _ _ _ c.requires.1.0.whole c.requires.1.1 c.clear.ensures

pub has-requires : goal.has-requires
has-requires c = omega (arith, (header _ c.requires.0).locations_fit, c.from-l-end.ensures)

pub loop-l-preserved : goal.loop-l-preserved
loop-l-preserved c =
    let h = c.loop-l.invariant in
    elim c.if-has.branch [
      | then-has w ↦ rw (w.set-is, w.next-is, w.found-is) (underway_more h _ _ _ w.play_from-found.ensures)
      | else-has w ↦ rw (w.set-is, w.next-is, w.found-is) (underway_passed h _ (reached_covers c.requires.1.0) (sym c.has.ensures ∙ w.if-has.false))
    ]

pub returns : goal.returns
returns c =
    let h = c.loop-l.invariant in
    let e : c.loop-l.l ≡ locations c.args.s.now = omega (arith, c.from-l-end.ensures) in
    (played_all _ c.requires.0 _ _ _ _ _ c.requires.1.0 (rw (← e) h.played), elapsed_all _ _ _ _ c.requires.1.0 h.source (rw (← e) h.waited) (rw (← e) h.rest))
