-- `diagonals::has` meets its contract. Assumes nothing.
use Rattle.retimer.proofs.sets.Lines.{diagonal_small}
use native.Mathlib.Omega.{arith}
use Rattle.retimer.proofs.sets.diagonals.has.Goals as goal

pub overflow_add-i : goal.overflow_add-i
overflow_add-i c = omega (arith, c.diagonal.ensures, c.from.ensures, diagonal_small c.args.x c.args.y c.requires.1.0 c.requires.1.1)

pub bounds-counts-i : goal.bounds-counts-i
bounds-counts-i c = omega (arith, c.diagonal.ensures, c.from.ensures, c.requires.0.0, c.requires.0.1, diagonal_small c.args.x c.args.y c.requires.1.0 c.requires.1.1)
