-- `play::fire_into` meets its contract. The part of the set that is lent is the target's rows. Assumes nothing.
use Rattle.retimer.proofs.sets.Parts.{span}
use Rattle.retimer.proofs.sets.Setting.{target_small, into_asked, into_some, into_none}
use native.Mathlib.Omega.{arith}
use Rattle.retimer.proofs.sets.play.fire_into.Goals as goal

pub fire-requires : goal.fire-requires
fire-requires c = into_asked _ _ _ _ _ c.requires.0 c.requires.1.1 c.from-t.ensures _ (span _ _) c.requires.1.0

pub overflow_shl-result : goal.overflow_shl-result
overflow_shl-result c =
    omega (arith, target_small _ _ _ _ _ c.requires.0 c.requires.1.1 c.from-t.ensures)

pub returns-then-fire : goal.returns-then-fire
returns-then-fire c = into_some _ _ _ _ _ c.requires.0 c.requires.1.1 c.from-t.ensures _ (span _ _) _ _ c.fire.ensures c.if-fire.true

pub returns : goal.returns
returns c = into_none _ _ _ _ _ c.requires.0 c.requires.1.1 c.from-t.ensures _ (span _ _) _ _ c.fire.ensures c.if-fire.false
