-- The configurations from which some wait leads into the rows of a location: the loop over second readings, the highest first.
-- Assumes nothing.
use mathlib.Core.Path.{◌≡◌, refl, ap, ap₂, sym, ◌∙◌, subst}
use mathlib.Core.Bool.{Bool, true, false, ◌||◌}
use mathlib.Core.List.{List}
use mathlib.Core.Logic.{◌⊎◌, inl, inr, ⊎_elim}
use Prim.Native.Nat.{ℕ, zero, suc, ◌+◌, ◌*◌, ◌-◌, ◌≤◌, ◌<◌, min}
use native.Mathlib.Omega.{arith}
use native.Mathlib.Nat.{le_refl}
use lib.Dec.{eqb}
use lib.ListN.{length, get_or, set, length-set}
use lib.Seq.{get_or-set_same, get_or-set_other}
use lib.Bits.{bit_or}
use borrow.Author.Tests.{eqb-true, eqb-false}
use Rattle.enforcement.specs.Limits.{max_count}
use Rattle.enforcement.specs.Automaton.{bit}
use Rattle.enforcement.specs.Model.{top, width}
use Rattle.retimer.specs.Row.{TickBefore, UpTo}
use Rattle.retimer.specs.Counts.{Closed}
use Rattle.retimer.specs.Leading.{all_rows, member, slack, Others, Waits, WaitsAdded}
use Rattle.enforcement.proofs.Bits.{bit_of_or, or_grows, or_cases, or_shown}
use Rattle.retimer.proofs.sets.Tables.{apart, slack_grows}

-- The rows from y on have gained what they are to gain, the others are as they were; r is the row y, or up to the highest of the last one.
pub record Closing (t u : List ℕ) (l y r : ℕ) : Type 0 where
  pub sized : length u ≡ length t
  pub others : Others t u l
  pub below : (k : ℕ) → k < y → get_or u (l * width + k) 0 ≡ get_or t (l * width + k) 0
  pub only : (x k : ℕ) → x ≤ top → y ≤ k → k ≤ top → member u l x k ≡ true → Waits t l x k
  pub all : (x k : ℕ) → x ≤ top → y ≤ k → k ≤ top → Waits t l x k → member u l x k ≡ true
  pub row_only : (x : ℕ) → x ≤ top → bit r x ≡ true → Waits t l x (min y top)
  pub row_all : (x : ℕ) → x ≤ top → Waits t l x (min y top) → bit r x ≡ true
  pub grows : slack u ≤ slack t

-- ---- Waits

-- No wait, or one tick and then a wait.
pub waits_none : (t : List ℕ) (l x y : ℕ) → x ≤ top → y ≤ top → member t l x y ≡ true → Waits t l x y
waits_none t l x y h g e =
    let a : min (x + 0) top ≡ x = omega arith in
    let b : min (y + 0) top ≡ y = omega arith in
    (0, rw (a, b) e)

pub waits_later : (t : List ℕ) (l x y : ℕ) → Waits t l (min (x + 1) top) (min (y + 1) top) → Waits t l x y
waits_later t l x y w =
    let n : ℕ = w.0 in
    let a : min (x + (n + 1)) top ≡ min (min (x + 1) top + n) top = omega arith in
    let b : min (y + (n + 1)) top ≡ min (min (y + 1) top + n) top = omega arith in
    (n + 1, rw (a, b) w.1)

pub waits_cases : (t : List ℕ) (l x y : ℕ) → x ≤ top → y ≤ top → Waits t l x y → (member t l x y ≡ true) ⊎ Waits t l (min (x + 1) top) (min (y + 1) top)
waits_cases t l x y h g w = go w.0 w.1
  where
    go : (n : ℕ) → member t l (min (x + n) top) (min (y + n) top) ≡ true → (member t l x y ≡ true) ⊎ Waits t l (min (x + 1) top) (min (y + 1) top)
    go zero e =
        let a : min (x + 0) top ≡ x = omega arith in
        let b : min (y + 0) top ≡ y = omega arith in
        inl (rw (a, b) at e)
    go (suc n) e =
        let a : min (x + suc n) top ≡ min (min (x + 1) top + n) top = omega arith in
        let b : min (y + suc n) top ≡ min (min (y + 1) top + n) top = omega arith in
        inr (n, rw (a, b) at e)

-- Rows that have, with a configuration, the one a tick before it, have the ones from which any wait leads into them.
pub closed_waits : (rows : List ℕ) (l from : ℕ) → Closed rows from l → (n x y : ℕ) → x ≤ top → from ≤ y → y ≤ top → member rows l (min (x + n) top) (min (y + n) top) ≡ true → member rows l x y ≡ true
closed_waits rows l from c zero x y p q o m =
    let a : min (x + 0) top ≡ x = omega arith in
    let b : min (y + 0) top ≡ y = omega arith in
    rw (a, b) at m
closed_waits rows l from c (suc n) x y p q o m =
    let a : min (x + suc n) top ≡ min (min (x + 1) top + n) top = omega arith in
    let b : min (y + suc n) top ≡ min (min (y + 1) top + n) top = omega arith in
    c x y p q o (closed_waits rows l from c n (min (x + 1) top) (min (y + 1) top) (omega arith) (omega arith) (omega arith) (rw (a, b) at m))

-- So with the saturated configuration they have every one of the location.
pub closed_whole : (rows : List ℕ) (l from : ℕ) → Closed rows from l → member rows l top top ≡ true → (x y : ℕ) → x ≤ top → from ≤ y → y ≤ top → member rows l x y ≡ true
closed_whole rows l from c m x y p q o =
    let a : min (x + top) top ≡ top = omega arith in
    let b : min (y + top) top ≡ top = omega arith in
    closed_waits rows l from c top x y p q o (rw (a, b) m)

-- ---- The loop

pub closing_begun : (t : List ℕ) (l v : ℕ) → UpTo (get_or t (l * width + top) 0) v → Closing t t l width v
closing_begun t l v a = record {
  sized = refl;
  others = λ k y ne h. refl;
  below = λ k h. refl;
  only = λ x k h g f. absurd (omega arith);
  all = λ x k h g f. absurd (omega arith);
  row_only = λ x h e. waits x (a.only x h e);
  row_all = λ x h w. a.all x (min (x + w.0) top) (omega arith) (omega arith) (let q : min (top + w.0) top ≡ top = omega arith in rw q at w.1);
  grows = le_refl (slack t);
}
  where
    waits : (x : ℕ) → (j : ℕ) × (x ≤ j) × (j ≤ top) × (bit (get_or t (l * width + top) 0) j ≡ true) → Waits t l x top
    waits x w =
        let p : min (x + (w.0 - x)) top ≡ w.0 = omega (arith, w.1, w.2) in
        let q : min (top + (w.0 - x)) top ≡ top = omega arith in
        (w.0 - x, rw (p, q) w.3)

module _ {t u : List ℕ} {l y r v : ℕ} (sized : length t ≡ all_rows) (in_range : l < max_count) (f : Closing t u l y r) (pos : 0 < y) (fits : y ≤ width) (a : TickBefore r v) where
  abbrev at : ℕ
  at = l * width + (y - 1)

  abbrev now : ℕ
  now = bit_or (get_or u at 0) v

  abbrev w : List ℕ
  w = set u at now

  row_here : get_or w at 0 ≡ now
  row_here = get_or-set_same u at now 0 (omega (arith, f.sized))

  row_other : (j : ℕ) → (j ≡ at → ⊥) → get_or w j 0 ≡ get_or u j 0
  row_other j ne = get_or-set_other u at j now 0 ne

  above_same : (x k : ℕ) → y ≤ k → member w l x k ≡ member u l x k
  above_same x k h = ap (λ (n : ℕ). bit n x) (row_other (l * width + k) (λ z. omega arith))

  now_bit : (x : ℕ) → x ≤ top → bit now x ≡ (member t l x (y - 1) || bit r (min (x + 1) top))
  now_bit x h = bit_of_or (get_or u at 0) v x ∙ ap₂ (λ (d e : Bool). d || e) (ap (λ (n : ℕ). bit n x) (f.below (y - 1) (omega arith))) (a.bits x h)

  later : min y top ≡ min (y - 1 + 1) top
  later = omega arith

  now_only : (x : ℕ) → x ≤ top → bit now x ≡ true → Waits t l x (y - 1)
  now_only x h e = ⊎_elim (waits_none t l x (y - 1) h (omega arith)) (λ k. waits_later t l x (y - 1) (subst (Waits t l (min (x + 1) top)) later (f.row_only (min (x + 1) top) (omega arith) k))) (or_cases _ _ (sym (now_bit x h) ∙ e))

  now_all : (x : ℕ) → x ≤ top → Waits t l x (y - 1) → bit now x ≡ true
  now_all x h z = now_bit x h ∙ ⊎_elim (λ k. or_shown _ _ (inl k)) (λ k. or_shown (member t l x (y - 1)) _ (inr (f.row_all (min (x + 1) top) (omega arith) (subst (Waits t l (min (x + 1) top)) (sym later) k)))) (waits_cases t l x (y - 1) h (omega arith) z)

  by_row : (P : ℕ → Type 0) → P (y - 1) → ((k : ℕ) → y ≤ k → P k) → (k : ℕ) → y - 1 ≤ k → P k
  by_row P p q k h = go (eqb k (y - 1)) refl
    where
      go : (d : Bool) → eqb k (y - 1) ≡ d → P k
      go true e = subst P (sym (eqb-true k (y - 1) e)) p
      go false e = let ne = eqb-false k (y - 1) e in q k (omega arith)

  pub closing_more : Closing t w l (y - 1) now
  closing_more =
      let z : min (y - 1) top ≡ y - 1 = omega arith in
      record {
        sized = length-set u at now ∙ f.sized;
        others = λ k i ne h. row_other (k * width + i) (apart k l i (y - 1) h (omega arith) ne) ∙ f.others k i ne h;
        below = λ k h. row_other (l * width + k) (λ z. omega arith) ∙ f.below k (omega arith);
        only = λ x k h. by_row (λ k. k ≤ top → member w l x k ≡ true → Waits t l x k) (λ g e. now_only x h (ap (λ (n : ℕ). bit n x) (sym row_here) ∙ e)) (λ k p g e. f.only x k h p g (sym (above_same x k p) ∙ e)) k;
        all = λ x k h. by_row (λ k. k ≤ top → Waits t l x k → member w l x k ≡ true) (λ g e. ap (λ (n : ℕ). bit n x) row_here ∙ now_all x h e) (λ k p g e. above_same x k p ∙ f.all x k h p g e) k;
        row_only = λ x h e. subst (Waits t l x) (sym z) (now_only x h e);
        row_all = λ x h e. now_all x h (subst (Waits t l x) z e);
        grows = omega (arith, slack_grows u at now (or_grows (get_or u at 0) v), f.grows);
      }
