-- `liveness::accepts` meets its contract. Assumes nothing.
use Rattle.enforcement.proofs.Loading.{size_fits}
use Rattle.enforcement.specs.Automaton.{bit}
use Prim.Native.Nat.{ℕ}
use mathlib.Core.Path.{ap, ◌∙◌}
use native.Mathlib.Omega.{arith}
use Rattle.retimer.proofs.liveness.accepts.Goals as goal

pub word_at-requires : goal.word_at-requires
word_at-requires c = omega (arith, size_fits _ c.requires.0)
