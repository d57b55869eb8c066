-- `lookup::step` meets its contract, from what `find` ensures of the place. Assumes nothing.
use Rattle.retimer.proofs.Transitions.{stepped_some}
use Rattle.retimer.proofs.lookup.step.Goals as goal

pub returns-in-Some : goal.returns-in-Some
returns-in-Some c = stepped_some _ _ _ _ _ _ c.requires.1 c.in-Some.ensures c.reset.ensures.0
