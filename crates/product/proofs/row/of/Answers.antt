-- `row::of` meets its contract: the pair of the location is read.
-- Assumes nothing.
use native.Mathlib.Omega.{arith}
use Rattle.enforcement.proofs.Loading.{pairs_fit}
use Rattle.product.proofs.RowLaws.{row_of}
use Rattle.product.proofs.row.of.Goals as goal

pub word_at-requires : goal.word_at-requires
word_at-requires c = omega (arith, pairs_fit c.args.s.now c.requires.0)

pub word_at-requires-2 : goal.word_at-requires-2
word_at-requires-2 c = omega (arith, pairs_fit c.args.s.now c.requires.0)

pub returns : goal.returns
returns c =
    let x = c.word_at in
    let y = c.word_at-2 in
    row_of c.args.s.now c.args.l x.result y.result c.requires.0 c.requires.1 x.ensures.0 y.ensures.0
