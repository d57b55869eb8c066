-- The loops that give a location, and some locations, every configuration.
-- Assumes nothing.
use mathlib.Core.Path.{◌≡◌, refl, ap, sym, ◌∙◌}
use mathlib.Core.Bool.{true, false, false≢true, true≢false}
use mathlib.Core.List.{List}
use mathlib.Core.Logic.{◌⊎◌, inl, inr, ⊎_elim}
use Prim.Native.Nat.{ℕ, ◌+◌, ◌*◌, ◌-◌, ◌^◌, ◌≤◌, ◌<◌}
use native.Mathlib.Omega.{arith}
use native.Mathlib.Nat.{le_refl}
use lib.ListN.{length, get_or}
use lib.Arith.{lt_of_le-ne}
use Rattle.enforcement.specs.Limits.{max_count}
use Rattle.enforcement.specs.Automaton.{bit}
use Rattle.enforcement.specs.Model.{top, width}
use Rattle.enforcement.proofs.Bits.{bit_ones}
use borrow.Rule.Slice.PartMut.{put_mid}
use Rattle.retimer.proofs.sets.Tables.{slack_less, same_or, lt_or}
use Rattle.retimer.proofs.sets.Parts.{put_length, put_at, put_before, put_after}
use Rattle.retimer.specs.Leading.{all_rows, member, LocationFilled, Filled}

-- The row of every reading, and more.
abbrev all : ℕ
all = 2 ^ 64 - 1

-- A row without some reading could grow.
pub short : (v x : ℕ) → v < 2 ^ 64 → x ≤ top → bit v x ≡ false → v < all
short v x h g e = lt_of_le-ne (omega arith) (λ d. true≢false (sym (bit_ones 64 x (omega arith)) ∙ ap (λ (n : ℕ). bit n x) (sym d) ∙ e))

-- ---- A location

-- The rows of l from `from` on are put, each full.
module _ (l from : ℕ) where
  abbrev start : ℕ
  start = l * width + from

  abbrev count : ℕ
  count = l * width + width - start

module _ (t : List ℕ) (l from : ℕ) (sized : length t ≡ all_rows) (in_range : l < max_count) (h : from ≤ top) where
  pub rows_inside : start l from + count l from ≤ length t
  rows_inside = omega arith

  module _ (ys : List ℕ) (same : length ys ≡ count l from) (filled : (i : ℕ) → i < count l from → get_or ys i 0 ≡ all) where
    abbrev put : List ℕ
    put = put_mid (start l from) (count l from) t ys

    here : (y : ℕ) → from ≤ y → y ≤ top → get_or put (l * width + y) 0 ≡ all
    here y g o =
        let e : l * width + y ≡ start l from + (y - from) = omega arith in
        ap (λ (n : ℕ). get_or put n 0) e ∙ put_at t (start l from) (count l from) rows_inside ys same (y - from) (omega arith) ∙ filled (y - from) (omega arith)

    -- Those before and after stay.
    stays : (j : ℕ) → (j < start l from) ⊎ (l * width + width ≤ j) → get_or put j 0 ≡ get_or t j 0
    stays j g = ⊎_elim (λ z. put_before t (start l from) (count l from) rows_inside ys same j z) (λ z. put_after t (start l from) (count l from) rows_inside ys same j (omega arith)) g

    -- No row has more to gain than before.
    least : (j : ℕ) → all - get_or put j 0 ≤ all - get_or t j 0
    least j = lt_or j (start l from) (λ z. rw (stays j (inl z)) (le_refl (all - get_or t j 0))) (λ z. lt_or j (l * width + width) (λ o. full_here o z) (λ o. rw (stays j (inr o)) (le_refl (all - get_or t j 0))))
      where
        full_here : j < l * width + width → start l from ≤ j → all - get_or put j 0 ≤ all - get_or t j 0
        full_here o z =
            let e : l * width + (j - l * width) ≡ j = omega arith in
            let f : get_or put j 0 ≡ all = ap (λ (n : ℕ). get_or put n 0) (sym e) ∙ here (j - l * width) (omega arith) (omega arith) in
            omega arith

    put_sized : length put ≡ length t
    put_sized = put_length t (start l from) (count l from) rows_inside ys same

    pub location_filled : LocationFilled t put l from
    location_filled = record {
      sized = put_sized;
      others = λ k y ne g. stays (k * width + y) (lt_or k l (λ z. inl (omega arith)) (λ z. inr (omega arith)));
      full = λ x y p g o. ap (λ (n : ℕ). bit n x) (here y g o) ∙ bit_ones 64 x (omega arith);
      below = λ y g o. stays (l * width + y) (inl (omega arith));
      larger = λ e. slack_less t put (l * width + top) put_sized least (omega arith) (let f = here top h (le_refl top) in omega arith);
    }

-- ---- Some locations

-- The places among the first n locations are full, the others are as they were.
pub record Filling (t u : List ℕ) (places n : ℕ) : Type 0 where
  pub sized : length u ≡ length t
  pub full : (l x y : ℕ) → l < n → x ≤ top → y ≤ top → bit places l ≡ true → member u l x y ≡ true
  pub other : (l x y : ℕ) → y ≤ top → bit places l ≡ false → member u l x y ≡ member t l x y

module _ {t u : List ℕ} {places n : ℕ} (f : Filling t u places n) where
  pub filling_more : {w : List ℕ} → LocationFilled u w n 0 → bit places n ≡ true → Filling t w places (n + 1)
  filling_more {w} a e = record {
    sized = a.sized ∙ f.sized;
    full = λ l x y h p o d. same_or l n (λ z. rw z (a.full x y p (omega arith) o)) (λ ne. ap (λ (m : ℕ). bit m x) (a.others l y ne o) ∙ f.full l x y (omega arith) p o d);
    other = λ l x y o d. ap (λ (m : ℕ). bit m x) (a.others l y (λ z. true≢false (sym e ∙ ap (bit places) (sym z) ∙ d)) o) ∙ f.other l x y o d;
  }
