-- `layers::layers` meets its contract. Assumes nothing.
use Rattle.enforcement.proofs.Loading.{pairs_fit}
use native.Mathlib.Omega.{arith}
use Rattle.retimer.proofs.LayingAll.{noted_from}
use Rattle.retimer.proofs.layers.layers.Goals as goal

pub bounds-s-1 : goal.bounds-s-1
bounds-s-1 c = omega (arith, pairs_fit c.args.s.now c.requires.0.loads)

pub returns : goal.returns
returns c =
    let w = c.with_tables.ensures in
    (w.ground, (λ e. absurd (omega arith), λ e. rw c.from.ensures at (noted_from _ _ _ _ _ _ c.of-places.ensures w)))
