-- `State::date_and_place` meets its contract: what is planned is what the model schedules.
-- Assumes nothing.
use mathlib.Core.Path.{refl, sym}
use Prim.Native.Nat.{◌+◌}
use native.Mathlib.Omega.{arith}
use lib.Seq.{length-take-le}
use Rattle.retimer.proofs.Decisions.{worked, plan_asked, place_asked, place_is}
use Rattle.retimer.proofs.Views.{done_same}
use Rattle.retimer.proofs.limits.State.date_and_place.Goals as goal

pub slice_bounds-plan-end : goal.slice_bounds-plan-end
slice_bounds-plan-end c =
    sym (length-take-le (c.args.self.held + 1) c.args.cs (omega (arith, c.requires.sound.held_fits, c.well_formed)))

pub plan-p-requires : goal.plan-p-requires
plan-p-requires c = plan_asked c.requires (omega (arith, c.well_formed)) refl

pub place-requires : goal.place-requires
place-requires c =
    place_asked (worked c.requires (omega (arith, c.well_formed))) c.requires.correctable.1 c.plan-p.ensures

pub returns : goal.returns
returns c =
    done_same c.place.ensures (place_is (worked c.requires (omega (arith, c.well_formed))) c.requires.correctable.1 c.plan-p.ensures)
