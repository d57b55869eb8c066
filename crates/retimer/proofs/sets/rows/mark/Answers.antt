-- `rows::mark` meets its contract. Assumes nothing.
use borrow.Author.Rules.{rules}
use lib.ListN.{get_or}
use lib.Bits.{bit_and}
use Rattle.retimer.specs.Row.{Flag}
use Rattle.retimer.proofs.sets.Joining.{joined, reset_in}
use Rattle.retimer.proofs.sets.rows.mark.Goals as goal

pub returns : goal.returns
returns c =
    let src = c.args.src.now in
    (joined c.requires.narrow c.join.ensures.0 (λ i v e. let f : Flag (bit_and (get_or src i 0) c.args.cols) v = search rules in (f.small, reset_in src _ i _ f)), c.join.ensures.1)
