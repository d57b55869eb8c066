-- `meet::meets_at` meets its contract. The invariant: the counts have no reading of the first i rows, and `before` is the row before. Assumes nothing.
use Rattle.retimer.proofs.sets.Meeting.{before_more, row_none}
use mathlib.Core.Path.{sym, ◌∙◌}
use mathlib.Core.Bool.{false≢true}
use Rattle.retimer.proofs.sets.meet.meets_at.Goals as goal

pub loop-i-preserved : goal.loop-i-preserved
loop-i-preserved c =
    let h = c.loop-i.invariant in
    (h.0, (before_more _ _ _ _ _ _ c.requires.0 c.requires.1 c.loop-i.invariant.0.0, row_none _ _ _ _ _ _ c.requires.0 c.requires.1 c.loop-i.invariant.0.0 _ _ c.fresh.ensures c.loop-i-test.true h.1.0 h.1.1 (λ w. false≢true (sym c.if-meets_row.false ∙ c.meets_row.ensures.1 w))))
