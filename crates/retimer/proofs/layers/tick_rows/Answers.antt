-- `layers::tick_rows` meets its contract. Assumes nothing.
use mathlib.Core.Path.{sym, ◌∙◌}
use Rattle.enforcement.proofs.Tests.{true_false}
use Rattle.retimer.proofs.LayingRows.{rows_passed, rows_next}
use Rattle.retimer.proofs.layers.tick_rows.Goals as goal
use Rattle.retimer.proofs.layers.tick_rows.Goals.{then-has, else-has}

pub loop-m-preserved : goal.loop-m-preserved
loop-m-preserved c =
    let w = c.loop-m.invariant in
    elim c.if-has.branch [
      | then-has t ↦ rw t.table-is (rows_next w (sym c.has.ensures ∙ t.if-has.true) c.requires.0.1 t.tick_at.ensures)
      | else-has t ↦ rw t.table-is (rows_passed w (λ h. true_false h (sym c.has.ensures ∙ t.if-has.false)))
    ]
