-- `diagonals::count` meets its contract. The invariant: the first l locations are counted, the others have nothing yet. Assumes nothing.
use Rattle.retimer.proofs.sets.Counting.{all_asked, all_more, all_ended}
use Rattle.retimer.proofs.sets.diagonals.count.Goals as goal

pub count_location-requires : goal.count_location-requires
count_location-requires c = all_asked c.requires c.loop-l.invariant c.loop-l-test.true

pub loop-l-preserved : goal.loop-l-preserved
loop-l-preserved c = all_more c.loop-l.invariant c.count_location.ensures

pub returns : goal.returns
returns c = all_ended _ c.loop-l.invariant c.loop-l-test.false c.loop-l.auto.l-end
