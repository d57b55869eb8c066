-- `lead::close` meets its contract. The invariant: the rows from y on have gained what they are to gain, the others are as they were. Assumes nothing.
use Rattle.retimer.proofs.sets.Closing.{Closing}
use Rattle.enforcement.specs.Model.{width}
use Prim.Native.Nat.{◌≤◌, min}
use Rattle.retimer.proofs.sets.lead.close.Given as goal

abbrev pub invariant-loop-y : goal.invariant-loop-y
invariant-loop-y l = Closing l.initial.rows l.rows l.l l.y l.row × (min l.from width ≤ l.y)
