-- `layers::clear` meets its contract. Assumes nothing.
use borrow.Author.Rules.{rules}
use native.Mathlib.Omega.{arith}
use Rattle.retimer.proofs.LayingLocations.{filled_cleared}
use Rattle.retimer.proofs.layers.clear.Goals as goal

pub returns : goal.returns
returns c = filled_cleared c.requires.0 c.requires.1 c.cell-here.ensures (omega arith) (search rules)
