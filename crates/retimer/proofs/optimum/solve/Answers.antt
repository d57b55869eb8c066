-- `optimum::solve` meets its contract. Assumes nothing.
use Rattle.retimer.proofs.Dating.{dating_begun}
use Rattle.retimer.proofs.optimum.solve.Goals as goal

pub waiting-last-requires : goal.waiting-last-requires
waiting-last-requires c = dating_begun c.requires.0 c.cost-v.ensures
