-- `meet::meets_at` meets its contract. The invariant: the counts have no reading of the first i rows, and `before` is the row before. Assumes nothing.
use Rattle.retimer.proofs.sets.Meeting.{NoneMet, Before}
use lib.ListN.{length}
use Prim.Native.Nat.{◌+◌, ◌*◌, ◌≤◌}
use mathlib.Core.Path.{◌≡◌}
use Rattle.retimer.proofs.sets.meet.meets_at.Given as goal

abbrev pub invariant-loop-i : goal.invariant-loop-i
invariant-loop-i l = ((l.a ≡ l.l * l.h) × (l.a + l.h ≤ length l.set)) × (Before l.set l.l l.h l.i l.before × NoneMet l.counts l.l l.set l.h l.i)
