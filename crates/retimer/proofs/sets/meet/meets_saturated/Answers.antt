-- `meet::meets_saturated` meets its contract. Assumes nothing.
use Rattle.retimer.proofs.sets.Meeting.{least_small, saturated_right}
use native.Mathlib.Omega.{arith}
use Rattle.retimer.proofs.sets.meet.meets_saturated.Goals as goal

pub has-requires : goal.has-requires
has-requires c = ((c.requires.sized, c.requires.in_range), (least_small _ _ _ c.requires c.if-row-eq0.false, omega arith))

pub returns : goal.returns
returns c = saturated_right _ _ _ c.requires c.if-row-eq0.false _ c.has.ensures
