-- `meet::meets_row` meets its contract. The invariant: the readings that are left decide. The measure is their number as bits. Assumes nothing.
use Rattle.retimer.proofs.sets.Meeting.{left_small, left_found, left_more}
use mathlib.Core.Path.{refl, sym, ◌∙◌}
use Rattle.retimer.proofs.sets.meet.meets_row.Goals as goal

pub has-requires : goal.has-requires
has-requires c = ((c.requires.sized, c.requires.in_range), (left_small _ _ _ _ _ c.loop-left.invariant c.loop-left-test.true, c.requires.second))

pub returns-then-has : goal.returns-then-has
returns-then-has c = (λ _. left_found _ _ _ _ _ c.loop-left.invariant c.loop-left-test.true (sym c.has.ensures ∙ c.if-has.true), λ _. refl)

pub loop-left-preserved : goal.loop-left-preserved
loop-left-preserved c = left_more _ _ _ _ _ c.loop-left.invariant c.loop-left-test.true (sym c.has.ensures ∙ c.if-has.false)
