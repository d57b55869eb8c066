-- The first place of a text at which a test holds, as a loop finds it.
-- Assumes nothing.
use mathlib.Core.Path.{◌≡◌, refl, sym, ap, ◌∙◌}
use mathlib.Core.Bool.{Bool, true, false, cond}
use mathlib.Core.List.{List, [], ◌∷◌}
use Prim.Native.Nat.{ℕ, zero, suc, ◌+◌, ◌≤◌, ◌<◌, min}
use native.Mathlib.Omega.{arith}
use native.Mathlib.Numerals.{add-one}
use lib.ListN.{length, get_or}
use Rattle.drafting.specs.Places.{first_from}

module _ (p : ℕ → Bool) where
  -- It holds here.
  pub holds : (s : List ℕ) (i : ℕ) → i < length s → p (get_or s i 0) ≡ true → first_from p s i ≡ i
  unfolding first_from
  holds [] i h e = absurd (omega arith)
  holds (b ∷ s) zero h e = ap (λ (t : Bool). cond t 0 (suc (first_from p s 0))) e
  holds (b ∷ s) (suc i) h e = ap suc (holds s i (omega arith) e)

  fails_suc : (s : List ℕ) (i : ℕ) → i < length s → p (get_or s i 0) ≡ false → first_from p s i ≡ first_from p s (suc i)
  unfolding first_from
  fails_suc [] i h e = absurd (omega arith)
  fails_suc (b ∷ s) zero h e = ap (λ (t : Bool). cond t 0 (suc (first_from p s 0))) e
  fails_suc (b ∷ s) (suc i) h e = ap suc (fails_suc s i (omega arith) e)

  -- It does not, and the search goes on.
  pub fails : (s : List ℕ) (i : ℕ) → i < length s → p (get_or s i 0) ≡ false → first_from p s i ≡ first_from p s (i + 1)
  fails s i h e = fails_suc s i h e ∙ ap (first_from p s) (sym (add-one i))

  -- The text is over.
  pub over : (s : List ℕ) (i : ℕ) → length s ≤ i → first_from p s i ≡ length s
  unfolding first_from
  over [] i h = refl
  over (b ∷ s) zero h = absurd (omega arith)
  over (b ∷ s) (suc i) h = ap suc (over s i (omega arith))

  -- The place from which on it fails up to a place where it holds or the text is over.
  pub first_is : (s : List ℕ) (i n : ℕ) → n ≤ length s → min i (length s) ≤ n → ((k : ℕ) → i ≤ k → k < n → p (get_or s k 0) ≡ false) → (n < length s → p (get_or s n 0) ≡ true) → n ≡ first_from p s i
  unfolding first_from
  first_is [] i n h low before found = omega arith
  first_is (b ∷ s) (suc i) zero h low before found = absurd (omega arith)
  first_is (b ∷ s) (suc i) (suc n) h low before found =
      ap suc (first_is s i n (omega arith) (omega arith) (λ k h m. before (suc k) (omega arith) (omega arith)) (λ m. found (omega arith)))
  first_is (b ∷ s) zero zero h low before found = ap (λ (t : Bool). cond t 0 (suc (first_from p s 0))) (sym (found (omega arith)))
  first_is (b ∷ s) zero (suc n) h low before found =
      ap suc (first_is s 0 n (omega arith) (omega arith) (λ k h m. before (suc k) (omega arith) (omega arith)) (λ m. found (omega arith)))
      ∙ sym (ap (λ (t : Bool). cond t 0 (suc (first_from p s 0))) (before 0 (omega arith) (omega arith)))
