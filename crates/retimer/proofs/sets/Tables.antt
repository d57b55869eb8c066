-- Rows in their list: which row is which, and by how much the rows can still grow.
-- Assumes nothing.
use mathlib.Core.Path.{◌≡◌, refl, ap, sym, ◌∙◌}
use mathlib.Core.Bool.{Bool, true, false, not}
use mathlib.Core.List.{List, [], ◌∷◌}
use Prim.Native.Nat.{ℕ, zero, suc, ◌+◌, ◌*◌, ◌-◌, ◌^◌, ◌≤◌, ◌<◌}
use native.Mathlib.Omega.{arith}
use native.Mathlib.Nat.{le_refl}
use lib.Dec.{eqb, ltb}
use lib.ListN.{length, get_or, set}
use lib.Seq.{set-get_or}
use lib.Arith.{lt_of_le-ne}
use lib.Bits.{bit_or, or_lt}
use borrow.Author.Tests.{eqb-true, eqb-false, ltb-true, ltb-false, not-true, not-false}
use Rattle.enforcement.specs.Limits.{max_count}
use Rattle.enforcement.specs.Model.{top, width}
use Rattle.retimer.specs.Leading.{all_rows, slack, RowAdded}
use Rattle.enforcement.proofs.Bits.{or_grows}

-- Rows of different locations lie apart.
pub apart : (k l a b : ℕ) → a ≤ top → b ≤ top → (k ≡ l → ⊥) → k * width + a ≡ l * width + b → ⊥
apart k l a b h g ne e = ne (omega arith)

pub inside : (l y : ℕ) (t : List ℕ) → l < max_count → y ≤ top → length t ≡ all_rows → l * width + y < length t
inside l y t h g e = omega arith

pub slack_set : (t : List ℕ) (i v : ℕ) → i < length t → get_or t i 0 < v → v < 2 ^ 64 → slack (set t i v) < slack t
slack_set [] i v h g f = absurd (omega arith)
slack_set (x ∷ t) zero v h g f = omega arith
slack_set (x ∷ t) (suc i) v h g f = omega (arith, slack_set t i v (omega arith) g f)

pub slack_grows : (t : List ℕ) (i v : ℕ) → get_or t i 0 ≤ v → slack (set t i v) ≤ slack t
slack_grows [] i v g = le_refl 0
slack_grows (x ∷ t) zero v g = omega arith
slack_grows (x ∷ t) (suc i) v g = omega (arith, slack_grows t i v g)

-- A row that can't grow leaves the least slack.
pub slack_full : (t : List ℕ) (i : ℕ) → slack (set t i (2 ^ 64 - 1)) ≤ slack t
slack_full [] i = le_refl 0
slack_full (x ∷ t) zero = omega arith
slack_full (x ∷ t) (suc i) = omega (arith, slack_full t i)

-- Rows of which none has more to gain than before, and one less.
slack_most : (t u : List ℕ) → length u ≡ length t → ((j : ℕ) → 2 ^ 64 - 1 - get_or u j 0 ≤ 2 ^ 64 - 1 - get_or t j 0) → slack u ≤ slack t
slack_most [] [] e f = le_refl 0
slack_most [] (v ∷ u) e f = absurd (omega arith)
slack_most (x ∷ t) [] e f = absurd (omega arith)
slack_most (x ∷ t) (v ∷ u) e f = omega (arith, f 0, slack_most t u (omega arith) (λ j. f (suc j)))

pub slack_less : (t u : List ℕ) (i : ℕ) → length u ≡ length t → ((j : ℕ) → 2 ^ 64 - 1 - get_or u j 0 ≤ 2 ^ 64 - 1 - get_or t j 0) → i < length t → 2 ^ 64 - 1 - get_or u i 0 < 2 ^ 64 - 1 - get_or t i 0 → slack u < slack t
slack_less [] u i e f h g = absurd (omega arith)
slack_less (x ∷ t) [] i e f h g = absurd (omega arith)
slack_less (x ∷ t) (v ∷ u) zero e f h g = omega (arith, g, slack_most t u (omega arith) (λ j. f (suc j)))
slack_less (x ∷ t) (v ∷ u) (suc i) e f h g = omega (arith, f 0, slack_less t u i (omega arith) (λ j. f (suc j)) (omega arith) g)

-- A row is stored with more readings.
module _ (t : List ℕ) (i m : ℕ) (h : i < length t) (f : get_or t i 0 < 2 ^ 64) (g : m < 2 ^ 64) where
  abbrev next : ℕ
  next = bit_or (get_or t i 0) m

  pub row_added : RowAdded t (set t i next) i m (not (eqb next (get_or t i 0)))
  row_added = record {
    stored = refl;
    larger = λ e. slack_set t i next h (lt_of_le-ne (or_grows (get_or t i 0) m) (λ d. eqb-false next (get_or t i 0) (not-true _ e) (sym d))) (or_lt 64 (get_or t i 0) m f g);
    same = λ e. ap (set t i) (eqb-true next (get_or t i 0) (not-false _ e)) ∙ set-get_or t i 0;
  }

-- A number is below another or not.
pub lt_or : {P : Type 0} (k l : ℕ) → (k < l → P) → (l ≤ k → P) → P
lt_or {P} k l f g = go (ltb k l) refl
  where
    go : (b : Bool) → ltb k l ≡ b → P
    go true e = f (ltb-true k l e)
    go false e = g (ltb-false k l e)

-- Two numbers are the same or not.
pub same_or : {P : Type 0} (k l : ℕ) → (k ≡ l → P) → ((k ≡ l → ⊥) → P) → P
same_or {P} k l f g = go (eqb k l) refl
  where
    go : (b : Bool) → eqb k l ≡ b → P
    go true e = f (eqb-true k l e)
    go false e = g (eqb-false k l e)
