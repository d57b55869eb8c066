-- `fire::fire_row` meets its contract. The one row is allowed, and the second clock is not reset. Assumes nothing.
use Rattle.retimer.proofs.sets.Bounding.{row_allowed, row_reset}
use Rattle.retimer.proofs.sets.Joining.{united_row, joined_begun, joined_more, kept_small, kept_in, reset_in}
use Rattle.retimer.proofs.sets.Firing.{fired_kept, fired_first}
use lib.ListN.{get_or}
use native.Mathlib.Omega.{arith}
use Rattle.retimer.proofs.sets.fire.fire_row.Goals as goal

pub returns-then-s-p-eq0 : goal.returns-then-s-p-eq0
returns-then-s-p-eq0 c =
    let p = c.requires.0 in
    let o = c.requires.1 in
    let src = c.args.src.now in
    let f = c.columns-cols.ensures in
    fired_kept _ src _ _ _ f (row_allowed _ _ _ p.fits p.source o) p.readings _ (united_row src _ f.small) _ _ c.if-s-p-eq0.true (joined_more _ _ _ _ 0 _ (omega arith) (omega (arith, p.source, p.target, o)) (joined_begun _ _ 0 p.narrow) (kept_small (get_or src 0 0) _ f.small) (kept_in src _ 0))

pub returns : goal.returns
returns c =
    let p = c.requires.0 in
    let o = c.requires.1 in
    let src = c.args.src.now in
    let f = c.columns-cols.ensures in
    fired_first _ src _ _ _ f (row_allowed _ _ _ p.fits p.source o) p.readings _ (united_row src _ f.small) _ _ (row_reset _ _ _ p.fits p.source o c.if-s-p-eq0.false) (joined_more _ _ _ _ 0 _ (omega arith) (omega (arith, p.source, p.target, o)) (joined_begun _ _ 0 p.narrow) c.flag.ensures.small (reset_in src _ 0 _ c.flag.ensures))
