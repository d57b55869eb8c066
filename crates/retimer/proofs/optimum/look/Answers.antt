-- `optimum::look` meets its contract. Assumes nothing.
use borrow.Author.Tests.{not-true, not-false}
use Rattle.retimer.proofs.Dating.{ahead_none, ahead_some}
use Rattle.retimer.proofs.optimum.look.Goals as goal

pub returns-then-not-next : goal.returns-then-not-next
returns-then-not-next c =
    ahead_none c.args.s.now c.args.cs.now c.args.k c.args.l c.args.r c.step-next.result c.step-next.ensures c.requires.0 (not-true _ c.if-not-next.true)

pub returns : goal.returns
returns c =
    ahead_some c.args.s.now c.args.cs.now c.args.k c.args.l c.args.r c.step-next.result c.step-next.ensures c.cost-cost.ensures (not-false _ c.if-not-next.false)
