-- `lead::add_transition` meets its contract. The invariant: the rows from y on have gained what they are to gain, the others are as they were. Assumes nothing.
-- The rows that the transition allows are rows of the set.
use Rattle.retimer.proofs.sets.Adding.{Adding}
use Rattle.retimer.specs.Readings.{past}
use Rattle.enforcement.specs.Automaton.{transition_at, byte}
use Prim.Native.Nat.{◌+◌, ◌≤◌, min}
use Rattle.retimer.proofs.sets.lead.add_transition.Given as goal

abbrev pub invariant-loop-y : goal.invariant-loop-y
invariant-loop-y l = (min l.least (past (byte l.s (l.p + 6))) ≤ l.y) × Adding l.initial.rows l.rows l.l (transition_at l.s l.p) l.y l.changed
