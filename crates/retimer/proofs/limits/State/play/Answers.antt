-- `State::play` meets its contract: nothing scheduled, too early, and played.
-- Assumes nothing.
use native.Mathlib.Omega.{arith}
use Rattle.retimer.proofs.Views.{empty_done, early_done, played_done}
use Rattle.retimer.proofs.limits.State.play.Goals as goal

pub returns-then-n-eq0 : goal.returns-then-n-eq0
returns-then-n-eq0 c =
    let l = c.lit_at-lit in
    empty_done c.args.self c.args.t l.result c.requires.0.sound c.requires.1.1 l.ensures (omega (arith, c.if-n-eq0.true))

pub returns-then-t-first : goal.returns-then-t-first
returns-then-t-first c =
    let l = c.lit_at-lit in
    early_done c.args.self c.args.t l.result c.requires.0.sound c.requires.1.1 l.ensures (omega (arith, c.if-n-eq0.false)) (omega (arith, c.if-t-first.true))

pub returns : goal.returns
returns c =
    let l = c.lit_at-lit in
    let w = c.without_first-rest in
    played_done c.args.self c.args.t l.result c.requires.0.sound c.requires.1.1 l.ensures w.result (omega (arith, c.if-n-eq0.false)) (omega (arith, c.if-t-first.false)) w.ensures.0 w.ensures.1
