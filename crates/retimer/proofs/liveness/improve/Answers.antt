-- `liveness::improve` meets its contract. Assumes nothing.
use Rattle.retimer.proofs.LiveTable.{whole_done, fill_gained, close_gained, turns_none, least_most}
use Rattle.retimer.specs.Live.{FromSaturated}
use Rattle.enforcement.specs.Automaton.{clocks}
use Rattle.enforcement.specs.Model.{top, width}
use Rattle.enforcement.proofs.Loading.{header}
use Prim.Native.Nat.{◌+◌, ◌*◌}
use lib.Dec.{eqb}
use mathlib.Core.Path.{refl, sym, ◌∙◌, subst}
use native.Mathlib.Omega.{arith}
use Rattle.retimer.proofs.liveness.improve.Goals as goal

pub has_saturated-requires : goal.has_saturated-requires
has_saturated-requires c = (c.requires.1.0.sized, omega (arith, (header _ c.requires.0).locations_fit, c.requires.1.1.0))

pub returns-then-has_saturated : goal.returns-then-has_saturated
returns-then-has_saturated c = whole_done _ c.requires.0 _ c.requires.1.0 c.requires.1.1.1.1 (sym c.has_saturated.ensures ∙ c.if-has_saturated.true)

pub fill-requires : goal.fill-requires
fill-requires c = (c.requires.1.0.sized, (omega (arith, (header _ c.requires.0).locations_fit, c.requires.1.1.0), omega (arith, c.requires.1.1.1.0, least_most (eqb (clocks c.args.s.now) 1))))

pub returns-then-some_from_saturated : goal.returns-then-some_from_saturated
returns-then-some_from_saturated c = fill_gained _ c.requires.0 c.requires.1.0 (subst (FromSaturated _ _ _ _ _) c.if-some_from_saturated.true c.some_from_saturated.ensures) (c.slice_known-1.given (c.args.l * width + top)).fits (sym c.has_saturated.ensures ∙ c.if-has_saturated.false) _ c.requires.1.1.1.0 c.fill.ensures

pub close-requires : goal.close-requires
close-requires c = (c.turns.ensures.gained.sound.sized, omega (arith, (header _ c.requires.0).locations_fit, c.requires.1.1.0))

pub returns-then-turns : goal.returns-then-turns
returns-then-turns c = close_gained _ c.requires.0 c.if-turns.true c.turns.ensures refl _ c.requires.1.1.1.0 c.close.ensures

pub returns : goal.returns
returns c = turns_none _ c.requires.0 c.if-turns.false c.turns.ensures refl c.requires.1.1.1.1
