-- `outlook::leads_live` meets its contract. The invariant: no wait of the interval below u leads to a live configuration. The measure is what is left of the interval. Assumes nothing.
use Rattle.retimer.proofs.Looking.{none_more, found_live, fired_standing, fired_live}
use Rattle.enforcement.specs.Automaton.{transition_at}
use mathlib.Core.Path.{sym, ◌∙◌}
use native.Mathlib.Omega.{arith}
use Rattle.retimer.proofs.outlook.leads_live.Goals as goal

pub is_live-requires : goal.is_live-requires
is_live-requires c =
    (c.requires.table, fired_standing c.args.s.now c.args.live.now c.args.p c.args.r c.requires c.loop-u.u c.wait_many.result c.reset-q.result (rw c.from.ensures at c.wait_many.ensures.0) c.reset-q.ensures.0)

pub returns-then-is_live : goal.returns-then-is_live
returns-then-is_live c =
    let l = c.loop-u in
    found_live c.args.s.now c.args.r (transition_at c.args.s.now c.args.p) l.u c.end_wait-end.result c.end_wait-end.ensures l.invariant.0 c.loop-u-test.true (sym (fired_live c.args.s.now c.args.live.now c.args.p c.args.r c.requires l.u c.wait_many.result c.reset-q.result (rw c.from.ensures at c.wait_many.ensures.0) c.reset-q.ensures.0) ∙ sym c.is_live.ensures ∙ c.if-is_live.true)

pub loop-u-preserved : goal.loop-u-preserved
loop-u-preserved c =
    let l = c.loop-u in
    (omega (arith, l.invariant.0), none_more c.args.s.now c.args.r (transition_at c.args.s.now c.args.p) l.u l.invariant.1 (sym (fired_live c.args.s.now c.args.live.now c.args.p c.args.r c.requires l.u c.wait_many.result c.reset-q.result (rw c.from.ensures at c.wait_many.ensures.0) c.reset-q.ensures.0) ∙ sym c.is_live.ensures ∙ c.if-is_live.false))
