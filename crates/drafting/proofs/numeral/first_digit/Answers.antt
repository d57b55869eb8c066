-- `numeral::first_digit` meets its contract: the test of `first` is the digit's.
-- Assumes nothing.
use Rattle.std.proofs.Common.{rules}
use Rattle.drafting.specs.Numerals.{is_digit}
use Rattle.drafting.proofs.PlaceLaws.{first_is}
use Rattle.drafting.proofs.numeral.first_digit.Goals as goal

pub returns : goal.returns
returns c =
    let f = c.first.ensures in
    first_is is_digit c.args.text.now c.args.from c.first.result f.within f.after (λ k h m. search (rules, f.before k h m)) (λ m. search (rules, f.found m))
