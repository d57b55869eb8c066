-- `join::fitting` meets its contract: the tests come in their order.
-- Assumes nothing.
use native.Mathlib.Omega.{arith}
use Rattle.enforcement.proofs.Loading.{header, size_fits}
use Rattle.product.proofs.Answers.{other_actions, too_many_clocks, too_many_locations, too_many_transitions, all_fit_lem}
use Rattle.product.proofs.join.fitting.Goals as goal

pub bounds-first-2 : goal.bounds-first-2
bounds-first-2 c = omega (arith, (size_fits c.args.first.now c.requires.0).0)

pub bounds-second-2 : goal.bounds-second-2
bounds-second-2 c = omega (arith, (size_fits c.args.second.now c.requires.1).0)

pub returns-then-first-second : goal.returns-then-first-second
returns-then-first-second c = let a = c.args in other_actions a.first.now a.second.now c.if-first-second.true

pub bounds-first-1 : goal.bounds-first-1
bounds-first-1 c = omega (arith, (size_fits c.args.first.now c.requires.0).0)

pub bounds-second-1 : goal.bounds-second-1
bounds-second-1 c = omega (arith, (size_fits c.args.second.now c.requires.1).0)

pub overflow_add-first : goal.overflow_add-first
overflow_add-first c = omega (arith, (header c.args.first.now c.requires.0).clocks_fit, (header c.args.second.now c.requires.1).clocks_fit)

pub returns-then-first-second-gt2 : goal.returns-then-first-second-gt2
returns-then-first-second-gt2 c = let a = c.args in too_many_clocks a.first.now a.second.now c.if-first-second.false c.if-first-second-gt2.true

pub returns-then-locations-gt-COUNT : goal.returns-then-locations-gt-COUNT
returns-then-locations-gt-COUNT c =
    let a = c.args in
    too_many_locations a.first.now a.second.now c.if-first-second.false c.if-first-second-gt2.false (omega (arith, c.count-locations.ensures))

pub returns-then-n-gt-TRANSITIONS : goal.returns-then-n-gt-TRANSITIONS
returns-then-n-gt-TRANSITIONS c =
    let a = c.args in
    too_many_transitions a.first.now a.second.now c.if-first-second.false c.if-first-second-gt2.false (omega (arith, c.count-locations.ensures, c.if-locations-gt-COUNT.false)) (omega (arith, c.all-n.ensures))

pub returns : goal.returns
returns c =
    let a = c.args in
    all_fit_lem a.first.now a.second.now c.if-first-second.false c.if-first-second-gt2.false (omega (arith, c.count-locations.ensures, c.if-locations-gt-COUNT.false)) c.count-locations.result c.all-n.result c.count-locations.ensures c.all-n.ensures c.if-n-gt-TRANSITIONS.false
