-- How many pairs pass a test of each part.
-- Assumes nothing.
use mathlib.Core.Path.{◌≡◌, refl, ap, ap₂, sym, ◌∙◌}
use mathlib.Core.Bool.{Bool, true, false, cond, ◌&&◌}
use Prim.Native.Nat.{ℕ, zero, suc, ◌+◌, ◌*◌, ◌/◌, ◌%◌, ◌<◌}
use native.Mathlib.Omega.{arith}
use native.Mathlib.Nat.{zero-mul, suc-mul, add-mul, one-mul}
use Rattle.enforcement.proofs.Bits.{count_below}
use Rattle.product.proofs.Pairing.{pair_first, pair_second}

-- Tests that answer the same below n count the same.
pub count_same : (f g : ℕ → Bool) (n : ℕ) → ((i : ℕ) → i < n → f i ≡ g i) → count_below f n ≡ count_below g n
count_same f g zero h = refl
count_same f g (suc n) h = ap₂ (λ (b : Bool) (x : ℕ). cond b 1 0 + x) (h n (omega arith)) (count_same f g n (λ i k. h i (omega arith)))

-- Those below a, and k more.
count_more : (f : ℕ → Bool) (a k : ℕ) → count_below f (a + k) ≡ count_below (λ i. f (a + i)) k + count_below f a
count_more f a zero = let e : a + 0 ≡ a = omega arith in ap (count_below f) e ∙ omega arith
count_more f a (suc k) =
    let e : a + suc k ≡ suc (a + k) = omega arith in
    ap (count_below f) e ∙ omega (arith, count_more f a k)

count_none : (n : ℕ) → count_below (λ i. false) n ≡ 0
count_none zero = refl
count_none (suc n) = omega (arith, count_none n)

-- One test before the other.
count_both : (b : Bool) (g : ℕ → Bool) (n : ℕ) → count_below (λ i. b && g i) n ≡ cond b 1 0 * count_below g n
count_both true g n = sym (one-mul (count_below g n))
count_both false g n = count_none n ∙ sym (zero-mul (count_below g n))

module _ (f g : ℕ → Bool) (n : ℕ) where
  abbrev both : ℕ → Bool
  both l = f (l / n) && g (l % n)

  row : (m : ℕ) → count_below (λ j. both (m * n + j)) n ≡ cond (f m) 1 0 * count_below g n
  row m = count_same (λ j. both (m * n + j)) (λ j. f m && g j) n (λ j h. ap₂ (λ (x y : ℕ). f x && g y) (pair_first n m j h) (pair_second n m j h)) ∙ count_both (f m) g n

  pub count_pairs : (m : ℕ) → count_below (λ l. f (l / n) && g (l % n)) (m * n) ≡ count_below f m * count_below g n
  count_pairs zero = ap (count_below both) (zero-mul n) ∙ sym (zero-mul (count_below g n))
  count_pairs (suc m) =
      ap (count_below both) (suc-mul m n) ∙ count_more both (m * n) n
      ∙ ap₂ ◌+◌ (row m) (count_pairs m)
      ∙ sym (add-mul (cond (f m) 1 0) (count_below f m) (count_below g n))
