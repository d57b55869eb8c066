-- `liveness::live_set` meets its contract. The invariant: only transitions whose target is in the set can still take a new configuration into the rows. The measure is by how much the rows can still grow, and one more while the set is not empty. Assumes nothing.
use Rattle.retimer.specs.Leading.{slack}
use Rattle.retimer.specs.Live.{Unsettled}
use Prim.Native.Nat.{◌+◌, min}
use Rattle.retimer.proofs.liveness.live_set.Given as goal

abbrev pub invariant-loop-gained : goal.invariant-loop-gained
invariant-loop-gained l = Unsettled l.s l.set l.gained

abbrev pub decreases-loop-gained : goal.decreases-loop-gained
decreases-loop-gained l = slack l.set + min l.gained 1
