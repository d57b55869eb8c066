-- The dates are those that the model reads off, and the configuration is the one that they lead to. They fall by the actions left, then by the ticks below saturation, then by the order waiting, playing.
-- Assumes nothing.
use native.Mathlib.Omega.{arith}
use lib.ListN.{length}
use mathlib.Core.Path.{◌≡◌}
use Rattle.retimer.proofs.Prospects.{rank_wait}
use Rattle.retimer.proofs.Walk.{written_end}
use Rattle.retimer.specs.Dates.{cost_ahead}
use Rattle.retimer.proofs.Dating.{dating_more, dating_played, playing_written, other_some, other_none, dating_ticks, dating_below, dating_waited, waiting_written}
use Rattle.retimer.proofs.optimum.+playing_waiting.Goals.{waiting-in_default-via-in-Some+else-q-v as costs_more, waiting-in_default-via-in_default as leads_nowhere}
use Rattle.retimer.proofs.optimum.+playing_waiting.Goals as goal

pub waiting-returns-then-k-cs : goal.waiting-returns-then-k-cs
waiting-returns-then-k-cs t c =
    written_end c.args.s.now c.args.cs.now c.args.k c.args.l c.args.r c.args.t c.args.out.now c.if-k-cs.true c.requires.standing

pub waiting-playing-requires : goal.waiting-playing-requires
waiting-playing-requires t c =
    let g = c.requires in
    (omega (arith, c.decreases), (dating_played g c.if-k-cs.false c.in-Some.ensures (omega arith), dating_more g c.if-k-cs.false))

pub waiting-returns-in-Some : goal.waiting-returns-in-Some
waiting-returns-in-Some t c = let g = c.requires in playing_written g c.if-k-cs.false c.in-Some.ensures (omega arith) g.room c.playing.ensures

pub waiting-overflow_sub-v : goal.waiting-overflow_sub-v
waiting-overflow_sub-v t c =
    let g = c.requires in
    let some_left = c.if-k-cs.false in
    let other : cost_ahead c.look.result ≡ c.args.v → ⊥ = elim c.in_default.branch [ costs_more w ↦ other_some g some_left w.in-Some.is (λ e. omega arith) | leads_nowhere w ↦ other_none g some_left w.in_default.is ] in
    dating_ticks g some_left c.look.ensures other c.wait.ensures.0

pub waiting-waiting-requires : goal.waiting-waiting-requires
waiting-waiting-requires t c =
    let g = c.requires in
    let some_left = c.if-k-cs.false in
    let e = c.wait.ensures.0 in
    let other : cost_ahead c.look.result ≡ c.args.v → ⊥ = elim c.in_default.branch [ costs_more w ↦ other_some g some_left w.in-Some.is (λ e. omega arith) | leads_nowhere w ↦ other_none g some_left w.in_default.is ] in
    (omega (arith, rank_wait (length c.args.cs.now) c.args.k c.args.r c.wait.result g.standing.readings e (dating_below g some_left c.look.ensures other e), c.decreases), dating_waited g some_left c.look.ensures other e)

pub waiting-returns-in_default : goal.waiting-returns-in_default
waiting-returns-in_default t c =
    let g = c.requires in
    let some_left = c.if-k-cs.false in
    let other : cost_ahead c.look.result ≡ c.args.v → ⊥ = elim c.in_default.branch [ costs_more w ↦ other_some g some_left w.in-Some.is (λ e. omega arith) | leads_nowhere w ↦ other_none g some_left w.in_default.is ] in
    waiting_written g some_left c.look.ensures other c.wait.ensures.0 c.waiting.ensures
