-- `liveness::from_saturated` meets its contract. Assumes nothing.
use Rattle.retimer.proofs.Places.{place_fits, place_inside}
use Rattle.enforcement.proofs.Loading.{header, size_fits}
use Rattle.enforcement.specs.Automaton.{bit}
use mathlib.Core.Path.{refl, ap, sym, ◌∙◌}
use native.Mathlib.Omega.{arith}
use Rattle.retimer.proofs.liveness.from_saturated.Goals as goal

pub bounds-s-p : goal.bounds-s-p
bounds-s-p c = omega (arith, place_inside _ c.requires.0 _ c.requires.1.1.0 _ c.requires.1.1.1)

pub has-requires : goal.has-requires
has-requires c = omega (arith, (place_fits _ c.requires.0 _ c.requires.1.1.0 _ c.requires.1.1.1).target_fits, (header _ c.requires.0).locations_fit, c.from.ensures)

pub leads_saturated-requires : goal.leads_saturated-requires
leads_saturated-requires c = (c.requires.1.0, (place_inside _ c.requires.0 _ c.requires.1.1.0 _ c.requires.1.1.1, (place_fits _ c.requires.0 _ c.requires.1.1.0 _ c.requires.1.1.1, (header _ c.requires.0).locations_fit)))
