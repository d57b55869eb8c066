-- `liveness::turn` meets its contract. Assumes nothing.
use Rattle.retimer.proofs.Places.{place_fits, place_inside}
use Rattle.retimer.proofs.LiveTable.{turn_taken, turn_left}
use Rattle.enforcement.proofs.Loading.{header, size_fits}
use Rattle.enforcement.specs.Automaton.{bit}
use mathlib.Core.Path.{ap, sym, ◌∙◌}
use native.Mathlib.Omega.{arith}
use Rattle.retimer.proofs.liveness.turn.Goals as goal

pub bounds-s-p : goal.bounds-s-p
bounds-s-p c = omega (arith, place_inside _ c.requires.0 _ c.requires.1.1.0 _ c.requires.1.1.1.0)

pub has-requires : goal.has-requires
has-requires c = omega (arith, (place_fits _ c.requires.0 _ c.requires.1.1.0 _ c.requires.1.1.1.0).target_fits, (header _ c.requires.0).locations_fit, c.from.ensures)

pub add_transition-requires : goal.add_transition-requires
add_transition-requires c = (c.requires.1.0.sized, (omega (arith, (header _ c.requires.0).locations_fit, c.requires.1.1.0), (place_inside _ c.requires.0 _ c.requires.1.1.0 _ c.requires.1.1.1.0, (place_fits _ c.requires.0 _ c.requires.1.1.0 _ c.requires.1.1.1.0, (header _ c.requires.0).locations_fit))))

pub returns-then-has : goal.returns-then-has
returns-then-has c = turn_taken _ c.requires.0 c.requires.1.0 c.requires.1.1.1.0 _ _ c.requires.1.1.1.1 c.add_transition.ensures
