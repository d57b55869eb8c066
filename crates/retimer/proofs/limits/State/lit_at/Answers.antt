-- `State::lit_at` meets its contract: a lit lamp stays lit, a dark one is kept with the first possible date, and else the lamp is asked where the model asks it.
-- Assumes nothing.
use mathlib.Core.Path.{ap, sym, ◌∙◌}
use native.Mathlib.Omega.{arith}
use lib.Seq.{length-take-le}
use Rattle.enforcement.specs.Model.{compile}
use Rattle.enforcement.specs.Monitor.{is_lit}
use Rattle.retimer.specs.Readings.{located}
use Rattle.retimer.proofs.CallLaws.{lamp_later, lamp_same}
use Rattle.retimer.proofs.Decisions.{lamp_asked, lamp_as}
use Rattle.retimer.proofs.limits.State.lit_at.Goals as goal

pub returns-then-self : goal.returns-then-self
returns-then-self c =
    lamp_later c.requires.0 c.args.t c.if-self.true c.requires.1.1 c.requires.1.0

pub returns-then-start-earliest : goal.returns-then-start-earliest
returns-then-start-earliest c =
    lamp_same c.requires.0 c.args.t c.if-self.false (sym c.earliest-start.ensures ∙ c.if-start-earliest.true ∙ c.earliest.ensures)

pub slice_bounds-is_lit-end : goal.slice_bounds-is_lit-end
slice_bounds-is_lit-end c =
    let w = c.actions-cs in
    sym (length-take-le c.args.self.held w.result (omega (arith, c.requires.0.sound.held_fits, w.type_inv)))

pub is_lit-requires : goal.is_lit-requires
is_lit-requires c =
    let r = c.wait_many-here in
    lamp_asked c.args.self _ r.result c.requires.0.sound r.ensures.0

pub returns : goal.returns
returns c =
    let a = c.args in
    let r = c.wait_many-here in
    lamp_as a.s.now a.self a.t _ _ _ c.earliest-start.ensures r.ensures.0 (c.is_lit.ensures ∙ ap (is_lit (compile a.s.now) (located a.self.location r.result)) c.actions-cs.ensures)
