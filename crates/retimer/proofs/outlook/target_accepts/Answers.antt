-- `outlook::target_accepts` meets its contract. Assumes nothing.
use native.Mathlib.Omega.{arith}
use Rattle.enforcement.proofs.Loading.{header}
use Rattle.retimer.proofs.outlook.target_accepts.Goals as goal

pub accepts-requires : goal.accepts-requires
accepts-requires c = let p = c.requires in (p.0, omega (arith, p.1.1.target_fits, (header _ p.0).locations_fit, c.from.ensures))
