-- `fire::fire` meets its contract. Each of the four reset sets by its law. Assumes nothing.
use Rattle.retimer.proofs.sets.Bounding.{rows_allowed}
use Rattle.retimer.proofs.sets.Firing.{fired_kept, fired_first, fired_second, fired_both}
use native.Mathlib.Omega.{arith}
use Rattle.retimer.proofs.sets.fire.fire.Goals as goal

pub returns-then-set-eq0 : goal.returns-then-set-eq0
returns-then-set-eq0 c = fired_kept _ _ _ _ _ c.columns-cols.ensures (rows_allowed c.args.s.now _ _ c.requires.fits c.requires.source _ _ c.if-src-eq1.false c.from-a.ensures c.past-b.ensures) c.requires.readings _ c.add.ensures.1 _ _ c.if-set-eq0.true c.add.ensures.0

pub returns-then-set-eq1 : goal.returns-then-set-eq1
returns-then-set-eq1 c = fired_first _ _ _ _ _ c.columns-cols.ensures (rows_allowed c.args.s.now _ _ c.requires.fits c.requires.source _ _ c.if-src-eq1.false c.from-a.ensures c.past-b.ensures) c.requires.readings _ c.mark.ensures.1 _ _ c.if-set-eq1.true c.mark.ensures.0

pub returns-then-set-eq2 : goal.returns-then-set-eq2
returns-then-set-eq2 c = fired_second _ _ _ _ _ c.columns-cols.ensures (rows_allowed c.args.s.now _ _ c.requires.fits c.requires.source _ _ c.if-src-eq1.false c.from-a.ensures c.past-b.ensures) c.requires.readings _ c.union-any.ensures _ _ c.if-set-eq2.true c.start.ensures

pub returns : goal.returns
returns c = fired_both _ _ _ _ _ c.columns-cols.ensures (rows_allowed c.args.s.now _ _ c.requires.fits c.requires.source _ _ c.if-src-eq1.false c.from-a.ensures c.past-b.ensures) c.requires.readings _ c.union-any.ensures _ _ _ c.flag.ensures (omega (arith, c.requires.fits.resets_fit, c.if-set-eq2.false, c.if-set-eq1.false, c.if-set-eq0.false)) c.start-2.ensures
