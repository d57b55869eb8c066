-- `layers::write_all` meets its contract. Assumes nothing.
use native.Mathlib.Omega.{arith}
use mathlib.Core.Path.{sym, ◌∙◌}
use Rattle.enforcement.proofs.Loading.{header}
use Rattle.enforcement.proofs.Tests.{true_false}
use Rattle.retimer.proofs.LayingLocations.{writes_passed, writes_next}
use Rattle.retimer.proofs.layers.write_all.Goals as goal
use Rattle.retimer.proofs.layers.write_all.Goals.{then-has, else-has}

pub has-requires : goal.has-requires
has-requires c =
    let i = (header c.args.s.now c.requires.0.loads).locations_fit in
    omega (arith, c.requires.1.0.in_count)

pub loop-m-preserved : goal.loop-m-preserved
loop-m-preserved c =
    let w = c.loop-m.invariant in
    elim c.if-has.branch [
      | then-has t ↦ rw t.table-is (writes_next w t.write.ensures)
      | else-has t ↦ rw t.table-is (writes_passed w (λ h. true_false h (sym c.has.ensures ∙ t.if-has.false)))
    ]
