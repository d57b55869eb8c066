-- `targets::of` meets its contract. The invariant: with the targets of the transitions from p on, the set has all. Assumes nothing.
use Rattle.retimer.proofs.Entering.{InTargets}
use Rattle.retimer.proofs.targets.of.Given as goal

abbrev pub invariant-loop-p : goal.invariant-loop-p
invariant-loop-p l = InTargets l.s l.c l.l l.found l.p l.end
