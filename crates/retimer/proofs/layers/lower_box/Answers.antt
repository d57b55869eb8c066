-- `layers::lower_box` meets its contract. Assumes nothing.
use native.Mathlib.Omega.{arith}
use mathlib.Core.Path.{ap, ◌∙◌}
use Prim.Native.Nat.{ℕ}
use Rattle.enforcement.specs.Automaton.{transition_at}
use Rattle.retimer.specs.Layers.{cell_of}
use Rattle.retimer.proofs.LayingBoxes.{box_next, first_bit, row_of}
use Rattle.retimer.proofs.layers.lower_box.Goals as goal

pub loop-y-preserved : goal.loop-y-preserved
loop-y-preserved c =
    let r = transition_at c.args.s.now c.args.p in
    let from_is = c.cell.ensures ∙ ap (λ (n : ℕ). cell_of c.args.t 0 n) c.row_after-row.ensures in
    let row = row_of c.from-x.ensures c.past-end.ensures c.lower_row.ensures in
    box_next c.requires.0.1.first c.requires.0.1.second c.loop-y.invariant (omega (arith, c.past-last.ensures)) from_is (first_bit r.resets) c.cell-in-loop-y.ensures row
