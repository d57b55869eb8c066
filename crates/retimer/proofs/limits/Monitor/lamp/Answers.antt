-- `Monitor::lamp` meets its contract: it answers the stored lamp.
-- Assumes nothing.
use mathlib.Core.Path.{refl}
use mathlib.Core.Bool.{true, false}
use Rattle.retimer.proofs.CallLaws.{lamp_right}
use Rattle.retimer.proofs.limits.Monitor.lamp.Goals as goal

pub returns-then-self : goal.returns-then-self
returns-then-self c = (rw c.if-self.true refl, λ v. lamp_right true v c.if-self.true)

pub returns : goal.returns
returns c = (rw c.if-self.false refl, λ v. lamp_right false v c.if-self.false)
