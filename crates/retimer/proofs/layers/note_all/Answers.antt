-- `layers::note_all` meets its contract. Assumes nothing.
use native.Mathlib.Omega.{arith}
use Rattle.enforcement.proofs.Loading.{header}
use Rattle.retimer.proofs.layers.note_all.Goals as goal

pub has-requires : goal.has-requires
has-requires c =
    let i = (header c.args.s.now c.requires.1.1.loads).locations_fit in
    omega (arith, c.requires.0.1.in_count)
