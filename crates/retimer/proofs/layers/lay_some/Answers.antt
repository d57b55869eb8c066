-- `layers::lay_some` meets its contract. Assumes nothing.
use native.Mathlib.Omega.{arith}
use mathlib.Core.Path.{◌∙◌}
use Rattle.retimer.proofs.LayingLocations.{stretch_most, all_laid}
use Rattle.retimer.proofs.layers.lay_some.Goals as goal

pub ticks-requires : goal.ticks-requires
ticks-requires c =
    let w = c.write_all.ensures in
    (record { in_half = omega arith; size = w.same_length ∙ c.requires.1.0.size; small = w.small }, stretch_most _ c.requires.0.0.loads c.requires.0.1.1)

pub note_all-requires : goal.note_all-requires
note_all-requires c =
    let w = c.write_all.ensures in
    let d = c.ticks.ensures in
    (((c.requires.0.1.0, c.requires.0.0.more), c.requires.0.1.1), ((record { in_half = omega arith; size = d.same_length ∙ w.same_length ∙ c.requires.1.0.size; small = d.small }, all_laid c.requires.0.0 w d), c.requires.1.1))

pub returns : goal.returns
returns c =
    let w = c.write_all.ensures in
    let d = c.ticks.ensures in
    ((record { in_half = omega arith; size = d.same_length ∙ w.same_length ∙ c.requires.1.0.size; small = d.small }, all_laid c.requires.0.0 w d), c.note_all.ensures)
