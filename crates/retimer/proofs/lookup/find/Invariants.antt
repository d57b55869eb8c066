-- `lookup::find` meets its contract. The invariant: the step is that of the first transition from the next one on that applies. Assumes nothing.
use Rattle.retimer.proofs.Transitions.{Remaining}
use Prim.Native.Nat.{◌+◌, ◌*◌}
use Rattle.retimer.proofs.lookup.find.Given as goal

abbrev pub invariant-loop-k : goal.invariant-loop-k
invariant-loop-k l = Remaining l.s l.c (record { location = l.l; x = l.x; y = l.y }) (l.start + 7 * l.k) (l.start + l.size)
