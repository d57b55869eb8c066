-- `layers::note` meets its contract. Assumes nothing.
use native.Mathlib.Omega.{arith}
use Rattle.enforcement.proofs.Loading.{header}
use Rattle.retimer.proofs.LayingLocations.{note_first_inside, note_second_inside, note_next}
use Rattle.retimer.proofs.layers.note.Goals as goal

pub place-base-requires : goal.place-base-requires
place-base-requires c =
    let n = (header c.args.s.now c.requires.1.1.loads).locations_fit in
    (c.requires.0.0.0, (omega (arith, c.requires.0.0.1, c.requires.1.1.few), (omega (arith, c.requires.0.1), omega arith)))

pub bounds-first-base : goal.bounds-first-base
bounds-first-base c =
    note_first_inside c.requires.0.0.0 c.requires.0.0.1 c.requires.0.1 c.loop-z.invariant (omega arith) (omega (arith, c.place-base.ensures))

pub bounds-second-base : goal.bounds-second-base
bounds-second-base c =
    note_second_inside c.requires.0.0.0 c.requires.0.0.1 c.requires.0.1 c.loop-z.invariant (omega arith) (omega (arith, c.place-base.ensures))

pub loop-z-preserved : goal.loop-z-preserved
loop-z-preserved c =
    note_next c.requires.0.0.0 c.requires.0.0.1 c.requires.0.1 c.loop-z.invariant (omega arith) c.args.m c.args.table.now c.requires.1.0.1 (omega (arith, c.place-base.ensures)) c.cell-column.ensures c.cell-row.ensures
