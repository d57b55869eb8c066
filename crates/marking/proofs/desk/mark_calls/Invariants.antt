-- `desk::mark_calls` meets its contract: the number of calls rises with each block that is full.
-- Assumes nothing.
use Prim.Native.Nat.{◌-◌}
use Rattle.retimer.specs.View.{Valid}
use Rattle.marking.proofs.desk.mark_calls.Given as goal

abbrev pub invariant-loop-n : goal.invariant-loop-n
invariant-loop-n g l = Valid l.b

abbrev pub decreases-loop-n : goal.decreases-loop-n
decreases-loop-n g l = 18446744073709551616 - l.n
