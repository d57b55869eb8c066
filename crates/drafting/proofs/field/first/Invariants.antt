-- `field::first` meets its contract: the test holds at no place from the first to the loop's.
-- Assumes nothing.
use Rattle.std.proofs.Common.{ℕ, ◌<◌, ◌≤◌, false, get_or}
use Rattle.drafting.proofs.field.first.Given as goal

abbrev pub invariant-loop-i : goal.invariant-loop-i
invariant-loop-i g l = (k : ℕ) → l.from ≤ k → k < l.i → goal.P-post g l.holds (get_or l.text k 0) false
