-- `liveness::some_from_saturated` meets its contract. The invariant: none of the transitions at the places before p leads so. Assumes nothing.
use Rattle.retimer.specs.Live.{FromSaturated}
use Rattle.enforcement.specs.Automaton.{offset}
use Prim.Native.Nat.{◌-◌, ◌%◌}
use mathlib.Core.Bool.{false}
use mathlib.Core.Path.{◌≡◌}
use Rattle.retimer.proofs.liveness.some_from_saturated.Given as goal

abbrev pub invariant-loop-p : goal.invariant-loop-p
invariant-loop-p l = ((l.p - offset l.s l.l) % 7 ≡ 0) × FromSaturated l.s l.set l.l l.gained l.p false
