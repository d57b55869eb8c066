-- `rows::join` meets its contract. The invariant: the rows from a up to i have gained theirs, and `any` has their readings. Assumes nothing.
use Rattle.retimer.proofs.sets.Joining.{uniting_more, united, gains_more}
use native.Mathlib.Omega.{arith}
use mathlib.Core.Path.{◌≡◌}
use Rattle.retimer.proofs.sets.rows.join.Goals as goal

pub loop-i-preserved : goal.loop-i-preserved
loop-i-preserved g c =
    let h = c.loop-i.invariant in
    let i = c.loop-i.i in
    (gains_more _ _ _ _ _ _ i _ c.loop-i.auto.i (omega (arith, c.requires.0.target)) h.0 c.made.ensures, uniting_more c.args.src.now _ i _ c.loop-i.auto.i h.1)

pub returns : goal.returns
returns g c =
    let e : c.loop-i.i ≡ c.args.b = omega (arith, c.loop-i.auto, c.requires.0.ordered) in
    (rw (← e) c.loop-i.invariant.0, united c.args.src.now _ c.args.a _ c.loop-i.i _ c.requires.0.small e c.loop-i.invariant.1)
