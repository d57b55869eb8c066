-- `layers::lay_all` meets its contract. Assumes nothing.
use native.Mathlib.Omega.{arith}
use Rattle.enforcement.proofs.Loading.{header, pairs_fit}
use Rattle.retimer.proofs.LayingAll.{low_only, low_and_high}
use Rattle.retimer.proofs.layers.lay_all.Goals as goal

pub bounds-s-0 : goal.bounds-s-0
bounds-s-0 c = let f = pairs_fit c.args.s.now c.requires.0.0.loads in omega (arith, f)

pub returns-then-n-le-HALF : goal.returns-then-n-le-HALF
returns-then-n-le-HALF c =
    let d = c.lay_some.ensures in
    low_only c.requires.0.0.more c.requires.0.1.1 d.0.0 c.requires.1.0.1 c.requires.1.1.1 c.from-n.ensures (omega arith) d.0.1 d.1

pub lay_some-requires-3 : goal.lay_some-requires-3
lay_some-requires-3 c =
    let n = (header c.args.s.now c.requires.0.0.loads).locations_fit in
    ((c.requires.0.0, (c.requires.0.1.0, record { in_half = omega (arith, c.from-n.ensures); in_count = omega (arith, c.from-n.ensures) })), (c.requires.1.0.1, c.lay_some-2.ensures.1.ground))

pub returns : goal.returns
returns c =
    let d = c.lay_some-2.ensures in
    let f = c.lay_some-3.ensures in
    low_and_high c.requires.0.0.more c.requires.0.1.1 d.0.0 f.0.0 c.requires.1.1.1 c.from-n.ensures (omega (arith, c.if-n-le-HALF.false)) d.0.1 f.0.1 d.1 f.1
