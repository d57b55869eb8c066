-- `outlook::single` meets its contract. The invariant: no transition before p ends the action, and `lives` says whether one leads to a live configuration. The measure is what is left of the places. Assumes nothing.
use Rattle.retimer.proofs.Looking.{Looking}
use Prim.Native.Nat.{◌-◌}
use Rattle.retimer.proofs.outlook.single.Given as goal

abbrev pub invariant-loop-p : goal.invariant-loop-p
invariant-loop-p l = Looking l.s l.c l.l l.r l.lives l.p l.end

abbrev pub decreases-loop-p : goal.decreases-loop-p
decreases-loop-p l = l.end - l.p
