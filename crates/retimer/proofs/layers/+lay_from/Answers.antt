-- `layers::lay_from` meets its contract: it falls by the actions from k on. Assumes nothing.
use native.Mathlib.Omega.{arith}
use Rattle.retimer.proofs.LayingAll.{laying_next, full_next}
use Rattle.retimer.proofs.layers.+lay_from.Goals as goal

pub lay_all-requires : goal.lay_all-requires
lay_all-requires t c =
    let i = c.requires.0.1.0.1 in
    let f = c.if-k-cs.false in
    let w = c.lay_from.ensures in
    let g = c.of_all-next.ensures in
    ((laying_next c.args.k c.args.places w.0 g (omega arith), (c.requires.0.1.0.0, c.requires.0.1.1)), (w.1, (w.0.ground, full_next c.args.k c.args.places w.0 g)))
