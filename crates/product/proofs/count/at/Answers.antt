-- `count::at` meets its contract: those counted and those ahead are all.
-- Assumes nothing.
use mathlib.Core.Path.{ap, ◌∙◌}
use native.Mathlib.Omega.{arith}
use lib.ListN.{length}
use Rattle.product.proofs.RowLaws.{row_joints}
use Rattle.product.proofs.Counts.{at_more, at_all}
use Rattle.product.proofs.count.at.Goals as goal

pub loop-i-preserved : goal.loop-i-preserved
loop-i-preserved c =
    let m = c.matching-k in
    at_more c.loop-i.invariant c.loop-i-test.true m.result m.ensures.0 (omega (arith, m.ensures.1, c.of-b.ensures.row_in.short))

pub returns : goal.returns
returns c =
    let l = c.loop-i in (
      at_all l.invariant c.loop-i-test.false ∙ ap length (row_joints c.of-both.ensures c.of-a.ensures c.of-b.ensures),
      omega (arith, l.invariant.few, c.of-a.ensures.row_in.short),
    )
