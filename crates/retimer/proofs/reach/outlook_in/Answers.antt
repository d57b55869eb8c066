-- `reach::outlook_in` meets its contract. A set of one configuration has its prospect. Assumes nothing.
use Rattle.retimer.proofs.Outlooks.{answer_is}
use Rattle.retimer.proofs.reach.outlook_in.Goals as goal

pub returns : goal.returns
returns c = answer_is _ _ _ _ _ c.begin-places.ensures c.requires.0.1 c.outlook_from.result c.outlook_from.ensures
