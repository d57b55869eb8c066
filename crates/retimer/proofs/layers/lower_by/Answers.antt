-- `layers::lower_by` meets its contract. Assumes nothing.
use native.Mathlib.Omega.{arith}
use Prim.Native.Nat.{ℕ, ◌+◌}
use mathlib.Core.List.{List}
use mathlib.Core.Path.{subst⁻¹}
use Rattle.retimer.proofs.LayingRows.{InLower, lower_next}
use Rattle.retimer.proofs.layers.lower_by.Goals as goal

pub loop-i-preserved : goal.loop-i-preserved
loop-i-preserved g c f h =
    let w = c.loop-i.invariant f h in
    let a = c.requires.0 in
    subst⁻¹ (λ (t : List ℕ). InLower f c.args.to c.args.x c.args.end (c.loop-i.i + 1) c.args.table.now t) c.lower.ensures (lower_next w (omega arith) (omega (arith, a.narrow, a.inside, a.size, w.same_length)) (h c.loop-i.i c.other.result c.other.ensures))
