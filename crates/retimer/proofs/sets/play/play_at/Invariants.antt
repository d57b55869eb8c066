-- `play::play_at` meets its contract. The invariant: with what the transitions from the next one on lead to, the set has all. Assumes nothing.
use Prim.Native.Nat.{◌+◌, ◌*◌}
use Rattle.retimer.proofs.sets.Setting.{Playing}
use Rattle.retimer.proofs.sets.play.play_at.Given as goal

abbrev pub invariant-loop-k : goal.invariant-loop-k
invariant-loop-k l = Playing l.s l.c l.l l.src l.initial.next l.next l.found (l.first + 7 * l.k) (l.first + l.size)
