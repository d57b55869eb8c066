-- `targets::of_all` meets its contract. The invariant: the set has the targets of the locations before l. Assumes nothing.
use Rattle.retimer.proofs.Entering.{InTargetsOf}
use Rattle.retimer.proofs.targets.of_all.Given as goal

abbrev pub invariant-loop-l : goal.invariant-loop-l
invariant-loop-l l = InTargetsOf l.s l.c l.places l.found l.l
