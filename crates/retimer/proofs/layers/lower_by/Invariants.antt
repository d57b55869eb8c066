-- `layers::lower_by` meets its contract. Assumes nothing.
use mathlib.Core.Path.{◌≡◌}
use Prim.Native.Nat.{ℕ}
use Rattle.retimer.proofs.LayingRows.{InLower}
use Rattle.retimer.proofs.layers.lower_by.Given as goal

abbrev pub invariant-loop-i : goal.invariant-loop-i
invariant-loop-i g l = (f : ℕ → ℕ) → ((i v : ℕ) → goal.F-post g l.other i v → v ≡ f i) → InLower f l.to l.x l.end l.i l.initial.table l.table
