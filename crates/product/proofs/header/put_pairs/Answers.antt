-- `header::put_pairs` meets its contract: those put and those ahead are all.
-- Assumes nothing.
use mathlib.Core.Path.{ap}
use Prim.Native.Nat.{ℕ, ◌*◌}
use Rattle.product.proofs.Placing.{placing_begun, place_fits, size_fits, placing_room, placing_put, placing_done}
use Rattle.product.proofs.header.put_pairs.Goals as goal

pub loop-l-init : goal.loop-l-init
loop-l-init c = let a = c.args in placing_begun a.first.now a.second.now a.out.now a.at c.count-count.result c.requires.0 c.count-count.ensures c.requires.1

pub put_pair-end-requires : goal.put_pair-end-requires
put_pair-end-requires c =
    let h = c.loop-l.invariant in
    let some = c.loop-l-test.true in
    let n = 7 * c.at-size.result in
    let e = ap (λ (k : ℕ). 7 * k) c.at-size.ensures.0 in
    (place_fits h some n e, (size_fits h some n e, placing_room h some n e))

pub loop-l-preserved : goal.loop-l-preserved
loop-l-preserved c =
    let p = c.put_pair-end in
    let a = c.at-size in
    placing_put c.loop-l.invariant c.loop-l-test.true (7 * a.result) (ap (λ (k : ℕ). 7 * k) a.ensures.0) p.ensures p.auto.out

pub returns : goal.returns
returns c = placing_done c.loop-l.invariant c.loop-l-test.false
