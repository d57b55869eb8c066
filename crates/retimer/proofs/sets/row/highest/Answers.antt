-- `row::highest` meets its contract: the zeros above the highest bit say how high it is. Assumes nothing.
use Rattle.retimer.proofs.sets.RowLaws.{highest_right}
use mathlib.Core.Path.{refl}
use Rattle.retimer.proofs.sets.row.highest.Goals as goal

pub returns : goal.returns
returns c = highest_right _ _ refl
