-- `layers::rule` meets its contract. Assumes nothing.
use native.Mathlib.Omega.{arith}
use Rattle.enforcement.proofs.Loading.{header}
use Rattle.retimer.proofs.LayingLocations.{took_box}
use Rattle.retimer.proofs.layers.rule.Goals as goal

pub lower_box-requires-2 : goal.lower_box-requires-2
lower_box-requires-2 c =
    let n = (header c.args.s.now c.requires.0.loads).locations_fit in
    (c.requires.1.0, ((omega (arith, c.from-t.ensures, c.requires.1.0.1.target_fits), c.requires.0.high_layer.size), (c.requires.1.1.in_half, c.requires.1.1.size)))

pub returns : goal.returns
returns c =
    let n = (header c.args.s.now c.requires.0.loads).locations_fit in
    took_box c.requires.1.1.small c.if-s-p.false c.requires.0.high_layer (omega (arith, c.from-t.ensures, c.if-t-lt-HALF.false)) (omega (arith, c.from-t.ensures, c.requires.1.0.1.target_fits)) c.lower_box-2.ensures
