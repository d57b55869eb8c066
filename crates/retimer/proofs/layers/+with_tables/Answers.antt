-- `layers::with_tables` meets its contract: it falls by the tables that are missing. Assumes nothing.
use native.Mathlib.Omega.{arith}
use Prim.Native.Nat.{◌*◌}
use Rattle.enforcement.specs.Model.{width}
use Rattle.retimer.specs.Layers.{half}
use Rattle.retimer.proofs.LayingAll.{ready_none}
use Rattle.retimer.proofs.layers.+with_tables.Goals as goal

pub with_tables-requires : goal.with_tables-requires
with_tables-requires t c =
    (omega (arith, c.decreases), (c.requires.0, ((λ h. ready_none (half * (width * width)) (omega arith)), ((λ h. absurd (omega arith)), (λ h. absurd (omega arith))))))

pub with_tables-requires-then-n-eq1 : goal.with_tables-requires-then-n-eq1
with_tables-requires-then-n-eq1 t c =
    (omega (arith, c.decreases), (c.requires.0, ((λ h. c.requires.1.0 (omega arith)), ((λ h. ready_none (half * (width * width)) (omega arith)), (λ h. absurd (omega arith))))))

pub with_tables-requires-then-n-eq2 : goal.with_tables-requires-then-n-eq2
with_tables-requires-then-n-eq2 t c =
    (omega (arith, c.decreases), (c.requires.0, ((λ h. c.requires.1.0 (omega arith)), ((λ h. c.requires.1.1.0 (omega arith)), (λ h. ready_none (half * (width * width)) (omega arith))))))

pub lay_from-requires : goal.lay_from-requires
lay_from-requires t c =
    let f = c.if-n-eq0.false in
    let g = c.if-n-eq1.false in
    let h = c.if-n-eq2.false in
    ((c.requires.0.0, ((omega arith, c.requires.0.1.0), c.requires.0.1.1)), ((c.requires.1.0 (omega arith), c.requires.1.1.0 (omega arith)), (c.requires.1.1.1 (omega arith), ready_none (half * (width * width)) (omega arith))))
