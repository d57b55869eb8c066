-- The number at a place of a text, as a loop reads it.
-- Assumes nothing.
use mathlib.Core.Path.{◌≡◌, sym, ap, ◌∙◌}
use mathlib.Core.Bool.{Bool, true, false, cond, not}
use mathlib.Core.List.{List}
use Prim.Native.Nat.{ℕ, suc, ◌+◌, ◌≤◌, ◌<◌}
use native.Mathlib.Numerals.{add-one}
use lib.ListN.{length, get_or, drop, drop_of_length-le}
use lib.Seq.{drop-cons}
use Rattle.drafting.specs.Places.{first_from}
use Rattle.drafting.specs.Numerals.{is_digit, is_other, with_digit, value_on, numeral_at}
use Rattle.drafting.proofs.PlaceLaws.{holds, fails, over}

-- What was read of the number at `from`, up to i: with what follows it is the number.
pub record Reading (s : List ℕ) (from n i : ℕ) : Type 0 where
  pub value : value_on n (drop i s) ≡ value_on 0 (drop from s)
  pub end : first_from is_other s i ≡ first_from is_other s from

module _ {s : List ℕ} {from n i : ℕ} (w : Reading s from n i) where
  -- A digit more.
  pub digit_read : (v : ℕ) → i < length s → is_digit (get_or s i 0) ≡ true → v ≡ with_digit n (get_or s i 0) → Reading s from v (i + 1)
  unfolding value_on
  digit_read v h e q = record {
    value = ap (λ (m : ℕ). value_on m (drop (i + 1) s)) q ∙ ap (λ (k : ℕ). value_on (with_digit n (get_or s i 0)) (drop k s)) (add-one i)
        ∙ sym (ap (λ (t : Bool). cond t (value_on (with_digit n (get_or s i 0)) (drop (suc i) s)) n) e)
        ∙ sym (ap (value_on n) (drop-cons s i 0 h)) ∙ w.value;
    end = sym (fails is_other s i h (ap not e)) ∙ w.end;
  }

  ends : (k : ℕ) → value_on n (drop i s) ≡ n → first_from is_other s i ≡ k → record { value = n; end = k } ≡ numeral_at s from
  unfolding numeral_at
  ends k v e = λ j. record { value = (sym v ∙ w.value) j; end = (sym e ∙ w.end) j }

  -- What follows is no digit.
  pub other_ends : i < length s → is_digit (get_or s i 0) ≡ false → record { value = n; end = i } ≡ numeral_at s from
  unfolding value_on
  other_ends h e = ends i
      (ap (value_on n) (drop-cons s i 0 h) ∙ ap (λ (t : Bool). cond t (value_on (with_digit n (get_or s i 0)) (drop (suc i) s)) n) e)
      (holds is_other s i h (ap not e))

  -- Nothing follows.
  pub text_ends : length s ≤ i → record { value = n; end = length s } ≡ numeral_at s from
  unfolding value_on
  text_ends h = ends (length s) (ap (value_on n) (drop_of_length-le s h)) (over is_other s i h)
