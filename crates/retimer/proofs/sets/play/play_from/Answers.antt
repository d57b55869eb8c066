-- `play::play_from` meets its contract. The part of the set that is lent is the location's rows. Assumes nothing.
use Rattle.retimer.proofs.sets.Stepping.{played_from}
use Rattle.retimer.proofs.sets.Parts.{span}
use Rattle.enforcement.proofs.Loading.{size_fits}
use native.Mathlib.Omega.{arith}
use Rattle.retimer.proofs.sets.play.play_from.Goals as goal

pub height-h-requires : goal.height-h-requires
height-h-requires c = omega (arith, size_fits _ c.requires.0.0)

pub returns : goal.returns
returns c = played_from _ _ _ _ _ _ _ c.requires.0.0 c.requires.0.1 c.requires.1.0 c.height-h.ensures (span _ _) _ c.wait.ensures _ _ c.play_at.ensures
