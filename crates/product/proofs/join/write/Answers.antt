-- `join::write` meets its contract: header, pairs and transitions are the joined sheet.
-- Assumes nothing.
use native.Mathlib.Omega.{arith}
use Rattle.product.specs.Product.{product_transitions}
use Rattle.product.proofs.Decoding.{bytes_length}
use Rattle.product.proofs.Answers.{pairs_end, output_is}
use Rattle.product.proofs.join.write.Goals as goal

pub put_all-end-requires : goal.put_all-end-requires
put_all-end-requires c =
    let h = c.put_header-end in
    let p = c.put_pairs-end in
    let j = c.requires.0 in
    (j, omega (arith, pairs_end c.args.first.now c.args.second.now h.ensures p.ensures, bytes_length (product_transitions c.args.first.now c.args.second.now), j.locations_fit, j.transitions_fit, h.auto.out, p.auto.out, c.requires.1))

pub returns : goal.returns
returns c =
    let h = c.put_header-end in
    let p = c.put_pairs-end in
    let t = c.put_all-end in
    output_is c.args.first.now c.args.second.now h.ensures p.ensures t.ensures c.requires.0 c.requires.1 c.clear.new.out (omega (arith, h.auto.out, p.auto.out, t.auto.out, c.requires.1)) c.clear.ensures
