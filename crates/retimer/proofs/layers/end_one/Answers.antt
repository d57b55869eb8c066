-- `layers::end_one` meets its contract. Assumes nothing.
use native.Mathlib.Omega.{arith}
use mathlib.Core.Path.{refl}
use Rattle.enforcement.specs.Automaton.{accepting}
use Rattle.enforcement.proofs.Loading.{header}
use Rattle.retimer.proofs.LayingAll.{ended_small, ended_gained}
use Rattle.retimer.proofs.layers.end_one.Goals as goal

pub ending-c-requires : goal.ending-c-requires
ending-c-requires c = let n = (header c.args.s.now c.requires.0.0).locations_fit in (c.requires.0.0, omega (arith, c.requires.0.1))

pub returns-then-l-lt-HALF : goal.returns-then-l-lt-HALF
returns-then-l-lt-HALF c =
    record { in_low = λ h. (ended_gained c.args.s.now c.args.l c.ending-c.ensures c.clear.ensures, refl); in_high = λ h. absurd (omega arith) }

pub clear-requires-2 : goal.clear-requires-2
clear-requires-2 c =
    let n = (header c.args.s.now c.requires.0.0).locations_fit in
    (record { in_half = omega (arith, c.requires.0.1); size = c.requires.1.1.size; small = c.requires.1.1.small }, ended_small (accepting c.args.s.now c.args.l) c.ending-c.ensures)

pub returns : goal.returns
returns c =
    record { in_low = λ h. absurd (omega arith); in_high = λ h. (ended_gained c.args.s.now c.args.l c.ending-c.ensures c.clear-2.ensures, refl) }
