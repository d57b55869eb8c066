-- `header::put_pair` meets its contract: two words, one after the other.
-- Assumes nothing.
use mathlib.Core.Path.{◌∙◌}
use native.Mathlib.Omega.{arith}
use Rattle.retimer.proofs.Writing.{next, as_part}
use Rattle.product.proofs.Headers.{word_is}
use Rattle.product.proofs.header.put_pair.Goals as goal

pub returns : goal.returns
returns c =
    let place = as_part c.put-end.ensures (c.to_le_bytes.ensures ∙ word_is c.args.place c.requires.0) in
    let size = as_part c.put.ensures (c.to_le_bytes-2.ensures ∙ word_is c.args.size c.requires.1.0) in
    next (omega (arith, place.ends, c.requires.1.1)) place size
