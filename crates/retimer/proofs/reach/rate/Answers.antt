-- `reach::rate` meets its contract. By the accepting locations among the places reached, then by the live members of each set. Assumes nothing.
use Rattle.retimer.proofs.Outlooks.{rate_correct, none_ends}
use Rattle.enforcement.proofs.Loading.{size_fits}
use native.Mathlib.Omega.{arith}
use Rattle.retimer.proofs.reach.rate.Goals as goal

pub word_at-accepting-requires : goal.word_at-accepting-requires
word_at-accepting-requires c = omega (arith, size_fits _ c.requires.0.loads)

pub returns-then-found-accepting-ne0 : goal.returns-then-found-accepting-ne0
returns-then-found-accepting-ne0 c = rate_correct _ _ _ _ c.requires.1.reached c.ranges.found.fits c.word_at-accepting.ensures.0 c.if-found-accepting-ne0.true

pub returns-then-any_live : goal.returns-then-any_live
returns-then-any_live c = (none_ends _ _ _ _ c.requires.1.reached c.ranges.found.fits c.word_at-accepting.ensures.0 c.if-found-accepting-ne0.false, c.any_live.ensures.0 c.if-any_live.true)
