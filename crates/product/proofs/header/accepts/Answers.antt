-- `header::accepts` meets its contract: the bits of both locations are looked at.
-- Assumes nothing.
use native.Mathlib.Omega.{arith}
use Rattle.enforcement.proofs.Loading.{size_fits}
use Rattle.product.proofs.header.accepts.Goals as goal

pub word_at-requires : goal.word_at-requires
word_at-requires c = omega (arith, (size_fits c.args.first.now c.requires.0.first).0)

pub word_at-requires-then-has : goal.word_at-requires-then-has
word_at-requires-then-has c = omega (arith, (size_fits c.args.second.now c.requires.0.second).0)
