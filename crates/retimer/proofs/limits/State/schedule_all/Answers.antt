-- `State::schedule_all` meets its contract: the state is the model's, and its lamp is that of no pending action where the last one ends.
-- Assumes nothing.
use mathlib.Core.Path.{refl}
use mathlib.Core.List.{[]}
use native.Mathlib.Omega.{arith}
use Rattle.retimer.specs.Readings.{located}
use Rattle.retimer.proofs.Stuck.{lit_empty}
use Rattle.retimer.proofs.Views.{placed_done}
use Rattle.retimer.proofs.limits.State.schedule_all.Goals as goal

pub none_next-lit-requires : goal.none_next-lit-requires
none_next-lit-requires c =
    let p = c.requires.0 in
    record { loads = p.sound.loads; table = p.sound.table; standing = p.stands }

pub returns : goal.returns
returns c =
    let w = c.with_slots-more in
    rw c.next_request-next.ensures
    (placed_done c.args.self c.args.t c.args.cs c.args.ds c.args.location c.args.readings c.args.last w.result c.none_next-lit.result c.requires.0 (rw c.next_request-next.ensures at w.ensures.0)
    (lit_empty c.args.s.now (located c.args.location c.args.readings) [] c.none_next-lit.result refl c.none_next-lit.ensures)
    (omega (arith, c.well_formed)) c.requires.1.0 c.requires.1.1 w.ensures.1)
