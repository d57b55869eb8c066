-- Pairs of locations as numbers.
-- Assumes nothing.
use mathlib.Core.Path.{◌≡◌, ap, ◌∙◌}
use Prim.Native.Nat.{ℕ, suc, ◌+◌, ◌*◌, ◌<◌}
use native.Mathlib.Omega.{arith}
use native.Mathlib.Nat.{add-zero, suc-mul, mul-le-mul_right, mul-add-div_right, mul-add-mod_self_right, div-eq_of_lt, mod-eq_of_lt}
use Rattle.product.specs.Product.{location_of, first_of, second_of}

-- The locations of a pair.
module _ (n i j : ℕ) (h : j < n) where
  pub pair_first : first_of n (location_of n i j) ≡ i
  pair_first = mul-add-div_right (omega arith) i j ∙ ap (λ (k : ℕ). i + k) (div-eq_of_lt h) ∙ add-zero i

  pub pair_second : second_of n (location_of n i j) ≡ j
  pair_second = mul-add-mod_self_right i n j ∙ mod-eq_of_lt h

-- A pair of locations is one of the product's.
pub pair_below : (m n i j : ℕ) → i < m → j < n → location_of n i j < m * n
pair_below m n i j h k = omega (arith, mul-le-mul_right {m = suc i} {n = m} n h, suc-mul i n)
