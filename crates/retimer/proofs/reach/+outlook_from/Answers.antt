-- `reach::outlook_from` meets its contract. The outlook of the next set is that of the set. The measure is how many actions are left. Assumes nothing.
use Rattle.retimer.proofs.Outlooks.{rated_last, rated_none, rated_next}
use mathlib.Core.Path.{refl}
use native.Mathlib.Omega.{arith}
use Rattle.retimer.proofs.reach.+outlook_from.Goals as goal

pub returns-then-k-cs : goal.returns-then-k-cs
returns-then-k-cs t c =
    let e = c.play-found.ensures in
    rated_last _ c.args.cs.now _ _ c.args.k _ _ _ c.requires.left refl c.requires.asked.reached e.0 c.requires.asked.loads e.1 c.if-k-cs.true c.rate.result c.rate.ensures

pub returns-then-found-eq0 : goal.returns-then-found-eq0
returns-then-found-eq0 t c =
    rated_none _ c.args.cs.now _ _ c.args.k _ _ _ c.requires.left refl c.requires.asked.reached c.play-found.ensures.0 (omega (arith, c.requires.left, c.if-k-cs.false)) c.if-found-eq0.true

pub returns : goal.returns
returns t c =
    rated_next _ c.args.cs.now _ _ c.args.k _ _ _ c.requires.left refl c.requires.asked.reached c.play-found.ensures.0 (omega (arith, c.requires.left, c.if-k-cs.false)) c.outlook_from.result c.outlook_from.ensures
