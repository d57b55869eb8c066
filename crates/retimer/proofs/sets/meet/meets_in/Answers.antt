-- `meet::meets_in` meets its contract. The invariant: the counts have no member of the first l locations. Assumes nothing.
use Rattle.retimer.proofs.sets.Meeting.{below_more, none_at, below_none}
use Rattle.enforcement.specs.Automaton.{bit}
use mathlib.Core.Path.{ap, sym, ◌∙◌}
use mathlib.Core.Bool.{false≢true}
use Rattle.retimer.proofs.sets.meet.meets_in.Goals as goal
use Rattle.retimer.proofs.sets.meet.meets_in.Goals.{then-has+else-meets_at, else-has}

pub loop-l-preserved : goal.loop-l-preserved
loop-l-preserved c =
    let l = c.loop-l.l in
    below_more c.args.counts.now c.args.set.now c.args.h l c.loop-l.invariant
    (elim c.if-has.branch [
      | then-has+else-meets_at w ↦ (λ k. false≢true (sym w.if-meets_at.false ∙ w.meets_at.ensures.1 k))
      | else-has w ↦ none_at c.args.counts.now c.args.set.now c.args.places c.args.locations c.args.h l c.requires.1.1 (ap (bit c.args.places) (sym c.from.ensures) ∙ sym c.has.ensures ∙ w.if-has.false)
    ])

pub returns : goal.returns
returns c =
    below_none c.args.counts.now c.args.set.now c.args.places c.args.locations c.args.h c.loop-l.l c.requires.1.1 c.loop-l-test.false c.loop-l.invariant
