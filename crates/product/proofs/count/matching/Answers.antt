-- `count::matching` meets its contract: those counted and those ahead are all.
-- Assumes nothing.
use native.Mathlib.Omega.{arith}
use Rattle.product.proofs.Counts.{counted_one, counted_other, counted_all}
use Rattle.product.proofs.count.matching.Goals.{then-second-row, else-second-row}
use Rattle.product.proofs.count.matching.Goals as goal

pub loop-i-preserved : goal.loop-i-preserved
loop-i-preserved c =
    let h = c.loop-i.invariant in
    let some = c.loop-i-test.true in
    elim c.if-second-row.branch [ then-second-row w ↦ rw w.k-is (counted_one h some w.if-second-row.true) | else-second-row w ↦ rw w.k-is (counted_other h some w.if-second-row.false) ]

pub returns : goal.returns
returns c = (counted_all c.loop-i.invariant c.loop-i-test.false, omega (arith, c.loop-i.invariant.few))
