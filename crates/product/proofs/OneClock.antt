-- Sheets with one clock each, which two sheets that can be joined are.
-- Assumes nothing.
use mathlib.Core.Path.{◌≡◌, refl, ap, ◌∙◌}
use mathlib.Core.Bool.{Bool, true, false, ◌&&◌}
use mathlib.Core.Logic.{inl}
use Prim.Native.Nat.{ℕ, ◌/◌, ◌%◌, ◌≤◌}
use native.Mathlib.Omega.{arith}
use borrow.Author.Tests.{eqb-false}
use Rattle.enforcement.specs.Automaton.{Bytes, Transition, clocks, within, enabled}
use Rattle.enforcement.specs.Loading.{OneClock}
use Rattle.enforcement.proofs.Comparisons.{within_right}
use Rattle.enforcement.proofs.Loading.{header}
use Rattle.product.specs.Product.{Joinable}

module _ {s u : Bytes} (j : Joinable s u) where
  pub first_clock : clocks s ≡ 1
  first_clock = omega (arith, (header s j.first).a_clock, (header u j.second).a_clock, j.clocks_fit)

  pub second_clock : clocks u ≡ 1
  second_clock = omega (arith, (header s j.first).a_clock, (header u j.second).a_clock, j.clocks_fit)

-- A reset set without clock 2.
pub resets_small : (t : Transition) → t.resets ≤ 3 → OneClock t → t.resets ≤ 1
resets_small t h k = let e = eqb-false (t.resets / 2 % 2) 1 k.kept in omega arith

and_true : (b : Bool) → b && true ≡ b
and_true true = refl
and_true false = refl

-- The second reading has no effect.
pub enabled_first : (t : Transition) (x y : ℕ) → OneClock t → enabled t x y ≡ within t.low1 t.high1 x
enabled_first t x y k =
    let e : within t.low2 t.high2 y ≡ true = (within_right t.low2 t.high2 y).1 (omega (arith, k.low_zero), inl k.high_none) in
    ap (λ (b : Bool). within t.low1 t.high1 x && b) e ∙ and_true (within t.low1 t.high1 x)
