-- `outlook::none_next` meets its contract. The invariant: no transition before p leads to a live configuration. The measure is what is left of the places. Assumes nothing.
use Rattle.retimer.proofs.Looking.{Nexting}
use Prim.Native.Nat.{◌-◌}
use Rattle.retimer.proofs.outlook.none_next.Given as goal

abbrev pub invariant-loop-p : goal.invariant-loop-p
invariant-loop-p l = Nexting l.s l.l l.r l.p l.end

abbrev pub decreases-loop-p : goal.decreases-loop-p
decreases-loop-p l = l.end - l.p
