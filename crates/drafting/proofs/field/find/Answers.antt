-- `field::find` meets its contract: the test of `first` is the mark's.
-- Assumes nothing.
use Rattle.std.proofs.Common.{rules, arith}
use Rattle.drafting.specs.Places.{is_mark}
use Rattle.drafting.proofs.PlaceLaws.{first_is}
use Rattle.drafting.proofs.field.find.Goals as goal

pub returns : goal.returns
returns c =
    let e = c.args in
    (omega (arith, c.first.ensures.within), (omega (arith, c.first.ensures.after), first_is (is_mark e.mark) e.text.now e.from c.first.result c.first.ensures.within c.first.ensures.after (λ k h m. search (rules, c.first.ensures.before k h m)) (λ m. search (rules, c.first.ensures.found m))))
