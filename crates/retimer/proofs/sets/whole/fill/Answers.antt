-- `whole::fill` meets its contract. Assumes nothing.
use Rattle.retimer.proofs.sets.Filling.{rows_inside, location_filled}
use Rattle.retimer.proofs.sets.Parts.{part_length}
use mathlib.Core.Path.{refl, ◌∙◌}
use native.Mathlib.Omega.{arith}
use Rattle.retimer.proofs.sets.whole.fill.Goals as goal

pub returns : goal.returns
returns c =
    let n = part_length c.args.rows.now _ _ (rows_inside c.args.rows.now c.args.l c.args.from c.requires.0 c.requires.1.0 c.requires.1.1) in
    location_filled c.args.rows.now c.args.l c.args.from c.requires.0 c.requires.1.0 c.requires.1.1 c.fill.new.self (c.fill.ensures.len ∙ n) (λ i h. c.fill.ensures.clones i 0 (omega arith) refl)
