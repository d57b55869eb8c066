-- `liveness::turns` meets its contract. The invariant: the transitions at the places before p are settled. Assumes nothing.
use Rattle.retimer.specs.Live.{Turns}
use Rattle.enforcement.specs.Automaton.{offset}
use Prim.Native.Nat.{◌-◌, ◌%◌}
use mathlib.Core.Path.{◌≡◌}
use Rattle.retimer.proofs.liveness.turns.Given as goal

abbrev pub invariant-loop-p : goal.invariant-loop-p
invariant-loop-p l = ((l.p - offset l.s l.l) % 7 ≡ 0) × Turns l.s l.initial.set l.set l.l l.gained l.p l.changed
