-- `diagonals::count_row` meets its contract. The invariant: the readings that are not left are stored. The measure is their number as bits. Assumes nothing.
use Rattle.retimer.proofs.sets.Counting.{lowest_small, lowest_diagonal, lowest_position, place_inside, storing_more, storing_ended}
use Rattle.enforcement.specs.Model.{width}
use Rattle.retimer.specs.Counts.{diagonals}
use Prim.Native.Nat.{ℕ, ◌+◌, ◌*◌, ◌-◌}
use mathlib.Core.Path.{ap}
use native.Mathlib.Omega.{arith}
use Rattle.retimer.proofs.sets.diagonals.count_row.Goals as goal

pub diagonal-requires : goal.diagonal-requires
diagonal-requires c = (lowest_small _ _ _ _ _ _ c.loop-left.invariant c.loop-left-test.true, omega (arith, c.requires.1.0))

pub overflow_add-i : goal.overflow_add-i
overflow_add-i c = omega (arith, c.diagonal.ensures, lowest_diagonal _ _ _ _ _ _ c.loop-left.invariant c.loop-left-test.true c.requires.1.0, c.requires.0.1)

pub position-requires : goal.position-requires
position-requires c = (lowest_small _ _ _ _ _ _ c.loop-left.invariant c.loop-left-test.true, omega (arith, c.requires.1.0))

pub overflow_sub-counts : goal.overflow_sub-counts
overflow_sub-counts c = omega (arith, c.position.ensures, lowest_position _ _ _ _ _ _ c.loop-left.invariant c.loop-left-test.true c.requires.1.0)

pub bounds-counts-i : goal.bounds-counts-i
bounds-counts-i c = omega (arith, c.diagonal.ensures, place_inside _ _ _ _ _ _ c.loop-left.invariant c.loop-left-test.true c.requires.0.0 c.requires.0.1 c.requires.1.0)

pub loop-left-preserved : goal.loop-left-preserved
loop-left-preserved c = storing_more _ _ _ _ _ _ c.loop-left.invariant c.loop-left-test.true _ _ c.requires.0.0 c.requires.0.1 c.requires.1.0 (ap (λ (n : ℕ). c.args.l * diagonals + n) c.diagonal.ensures) (ap (λ (n : ℕ). width - n) c.position.ensures)

pub returns : goal.returns
returns c = storing_ended c.loop-left.invariant c.loop-left-test.false
