-- `field::capital` meets its contract: what stands at the first place with a capital is the first capital.
-- Assumes nothing.
use Rattle.std.proofs.Common.{rules, arith, ap, ◌∙◌, slice_index, unwrap_or}
use Rattle.drafting.specs.Places.{is_capital}
use Rattle.drafting.proofs.PlaceLaws.{first_is}
use Rattle.drafting.proofs.field.capital.Goals as goal

pub returns-clause-first : goal.returns-clause-first
returns-clause-first c =
    let s = c.args.text.now in
    let p = c.first-place in
    ap (λ o. unwrap_or o 0) c.copied.ensures ∙ c.get.ensures.lookup.4 (omega arith) 0
    ∙ ap (λ k. slice_index s k) (first_is is_capital s 0 p.result p.ensures.within p.ensures.after (λ k h m. search (rules, p.ensures.before k h m)) (λ m. search (rules, p.ensures.found m)))
