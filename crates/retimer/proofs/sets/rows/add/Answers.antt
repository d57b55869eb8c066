-- `rows::add` meets its contract. Assumes nothing.
use borrow.Author.Rules.{rules}
use lib.ListN.{get_or}
use lib.Bits.{bit_and}
use mathlib.Core.Path.{◌≡◌}
use Rattle.retimer.proofs.sets.Joining.{joined, kept_small, kept_in}
use Rattle.retimer.proofs.sets.rows.add.Goals as goal

pub returns : goal.returns
returns c =
    let src = c.args.src.now in
    let cols = c.args.cols in
    (joined c.requires.narrow c.join.ensures.0 (λ i v e. let z : v ≡ bit_and (get_or src i 0) cols = search rules in rw z (kept_small _ cols c.requires.small, kept_in src cols i)), c.join.ensures.1)
