-- The configurations that a transition takes into the rows: the saturated one, and the loop over second readings.
-- Assumes nothing.
use mathlib.Core.Path.{◌≡◌, refl, ap, ap₂, sym, ◌∙◌}
use mathlib.Core.Bool.{Bool, true, false, cond, ◌||◌, ◌&&◌, and-true, and-false, or-false, false≢true, true≢false}
use mathlib.Core.List.{List}
use Prim.Native.Nat.{ℕ, ◌+◌, ◌*◌, ◌-◌, ◌/◌, ◌%◌, ◌≤◌, ◌<◌, min, max}
use native.Mathlib.Omega.{arith}
use lib.Dec.{eqb, ltb}
use lib.ListN.{length, get_or, length-set}
use lib.Seq.{get_or-set_same, get_or-set_other}
use lib.Bits.{bit_or, bit_and}
use borrow.Author.Tests.{eq-eqb, ne_eqb, eqb-true, eqb-false, ltb-true, ltb-false}
use Rattle.enforcement.specs.Limits.{max_count}
use Rattle.enforcement.specs.Automaton.{Transition, bit, within, enabled}
use Rattle.enforcement.specs.Model.{top, width}
use Rattle.retimer.specs.Row.{Spread}
use Rattle.retimer.specs.Readings.{past}
use Rattle.retimer.specs.Sets.{Columns}
use Rattle.retimer.specs.Leading.{all_rows, member, slack, kept_first, kept_second, leads, Leading, RowAdded, Others, TransitionAdded}
use Rattle.enforcement.proofs.Bits.{bit_of_or, bit_of_and, bit_lowest}
use Rattle.retimer.proofs.sets.Bounding.{within_above, within_below, within_inside, columns_bit}
use Rattle.retimer.proofs.Valuations.{cond_most}
use Rattle.retimer.proofs.sets.Tables.{apart}

-- ---- The row that leads into the target

module _ (t : List ℕ) (target resets y k : ℕ) (e : k ≡ cond (eqb (resets / 2 % 2) 1) 0 y) where
  pub kept_fits : y ≤ top → k ≤ top
  kept_fits h = omega (arith, cond_most (eqb (resets / 2 % 2) 1) y top h)

-- ---- From saturated readings

-- A second reading out of bounds.
leads_out : (t : List ℕ) (v : Transition) (x y : ℕ) → within v.low2 v.high2 y ≡ false → leads t v x y ≡ false
unfolding leads
leads_out t v x y e = rw (e, and-false (within v.low1 v.high1 x)) refl

module _ (t : List ℕ) (v : Transition) where
  pub saturated_stops : enabled v top top ≡ false → false ≡ leads t v top top
  unfolding leads
  saturated_stops e = rw e refl

  pub saturated_leads : enabled v top top ≡ true → (n w : ℕ) → n ≡ v.target → Leading t n v.resets top w → bit w top ≡ leads t v top top
  unfolding leads
  saturated_leads e n w h a = a.bits top (omega arith) ∙ rw (e, h) refl

-- ---- The loop

-- The rows from y on have gained what they are to gain, the others are as they were.
pub record Adding (t u : List ℕ) (l : ℕ) (v : Transition) (y : ℕ) (b : Bool) : Type 0 where
  pub sized : length u ≡ length t
  pub others : Others t u l
  pub below : (k : ℕ) → k < y → get_or u (l * width + k) 0 ≡ get_or t (l * width + k) 0
  pub beyond : (k : ℕ) → past v.high2 ≤ k → k ≤ top → get_or u (l * width + k) 0 ≡ get_or t (l * width + k) 0
  pub above : (x k : ℕ) → x ≤ top → y ≤ k → k ≤ top → member u l x k ≡ (member t l x k || leads t v x k)
  pub larger : b ≡ true → slack u < slack t
  pub same : b ≡ false → u ≡ t

or_out : {a b : Bool} → b ≡ false → a ≡ (a || b)
or_out {a} {b} e = rw (e, or-false a) refl

pub adding_begun : (t : List ℕ) (l : ℕ) (v : Transition) (n : ℕ) → n ≡ past v.high2 → Adding t t l v n false
adding_begun t l v n e = record {
  sized = refl;
  others = λ k y ne h. refl;
  below = λ k h. refl;
  beyond = λ k h g. refl;
  above = λ x k h g f. or_out (leads_out t v x k (within_above v.low2 v.high2 k f (omega arith)));
  larger = λ d. absurd (false≢true d);
  same = λ d. refl;
}

module _ {t u w : List ℕ} {l : ℕ} {v : Transition} {y m n r : ℕ} {b c : Bool} (sized : length t ≡ all_rows) (in_range : l < max_count) (f : Adding t u l v y b) (h : v.low2 < y) (g : y ≤ past v.high2) (fits : y ≤ width)
    (cols : Columns v m) (e : n ≡ v.target) (lead : Leading u n v.resets (y - 1) r) (a : RowAdded u w (l * width + (y - 1)) (bit_and m r) c) where
  abbrev i : ℕ
  i = l * width + (y - 1)

  -- Rows that are still as they were.
  row_same : (k z : ℕ) → z ≤ top → (k ≡ l → z < y) → get_or u (k * width + z) 0 ≡ get_or t (k * width + z) 0
  row_same k z p q = go (eqb k l) refl
    where
      go : (d : Bool) → eqb k l ≡ d → get_or u (k * width + z) 0 ≡ get_or t (k * width + z) 0
      go true e = let z' = eqb-true k l e in rw z' (f.below z (q z'))
      go false e = f.others k z (eqb-false k l e) p

  stored_here : get_or w i 0 ≡ bit_or (get_or u i 0) (bit_and m r)
  stored_here = ap (λ (z : List ℕ). get_or z i 0) a.stored ∙ get_or-set_same u i _ 0 (omega (arith, f.sized))

  stored_other : (j : ℕ) → (j ≡ i → ⊥) → get_or w j 0 ≡ get_or u j 0
  stored_other j ne = ap (λ (z : List ℕ). get_or z j 0) a.stored ∙ get_or-set_other u i j _ 0 ne

  here : (x : ℕ) → x ≤ top → member w l x (y - 1) ≡ (member t l x (y - 1) || leads t v x (y - 1))
  unfolding leads
  here x p =
      let q : member u v.target (kept_first v x) (kept_second v (y - 1)) ≡ member t v.target (kept_first v x) (kept_second v (y - 1)) = ap (λ (n : ℕ). bit n (kept_first v x)) (row_same v.target (kept_second v (y - 1)) (cond_most (bit v.resets 1) (y - 1) top (omega arith)) (λ _. omega (arith, cond_most (bit v.resets 1) (y - 1) (y - 1) (omega arith)))) in
      ap (λ (n : ℕ). bit n x) stored_here
      ∙ bit_of_or (get_or u i 0) (bit_and m r) x
      ∙ ap₂ (λ (d e : Bool). d || e) (ap (λ (n : ℕ). bit n x) (f.below (y - 1) (omega arith)))
      (bit_of_and m r x ∙ ap₂ (λ (d e : Bool). d && e) (columns_bit cols x p ∙ sym (and-true (within v.low1 v.high1 x)) ∙ ap (λ (d : Bool). within v.low1 v.high1 x && d) (sym (within_inside v.low2 v.high2 (y - 1) (omega arith) (omega arith) (omega arith)))) (lead.bits x p ∙ ap (λ (k : ℕ). member u k (kept_first v x) (kept_second v (y - 1))) e ∙ q))

  above_next : (x k : ℕ) → x ≤ top → y - 1 ≤ k → k ≤ top → member w l x k ≡ (member t l x k || leads t v x k)
  above_next x k p q o = go (eqb k (y - 1)) refl
    where
      go : (d : Bool) → eqb k (y - 1) ≡ d → member w l x k ≡ (member t l x k || leads t v x k)
      go true e = rw (eqb-true k (y - 1) e) (here x p)
      go false e = let ne = eqb-false k (y - 1) e in ap (λ (n : ℕ). bit n x) (stored_other (l * width + k) (λ z. ne (omega arith))) ∙ f.above x k p (omega arith) o

  adding_with : (d : Bool) → (d ≡ true → slack w < slack t) → (d ≡ false → w ≡ t) → Adding t w l v (y - 1) d
  adding_with d lg sm = record {
    sized = ap length a.stored ∙ length-set u i _ ∙ f.sized;
    others = λ k z ne p. stored_other (k * width + z) (apart k l z (y - 1) p (omega arith) ne) ∙ f.others k z ne p;
    below = λ k p. stored_other (l * width + k) (λ z. omega arith) ∙ f.below k (omega arith);
    beyond = λ k p o. stored_other (l * width + k) (λ z. omega arith) ∙ f.beyond k p o;
    above = above_next;
    larger = lg;
    same = sm;
  }

  pub adding_more : c ≡ true → Adding t w l v (y - 1) true
  adding_more e = adding_with true (λ _. go b refl) (λ d. absurd (true≢false d))
    where
      go : (d : Bool) → b ≡ d → slack w < slack t
      go true z = omega (arith, f.larger z, a.larger e)
      go false z = rw (f.same z) at (a.larger e)

  pub adding_same : c ≡ false → Adding t w l v (y - 1) b
  adding_same e = adding_with b (λ z. rw (a.same e) (f.larger z)) (λ z. a.same e ∙ f.same z)

pub adding_ended : {t u : List ℕ} {l : ℕ} {v : Transition} {y : ℕ} {b : Bool} (from : ℕ) → Adding t u l v y b → y ≤ max from v.low2 → min (max from v.low2) (past v.high2) ≤ y → TransitionAdded t u l from v b
adding_ended {t} {u} {l} {v} {y} from f h g = record {
  sized = f.sized;
  others = f.others;
  exact = λ x k p q o. go x k p q o;
  below = λ k p o. kept k p o (ltb k y) refl;
  larger = f.larger;
  same = f.same;
}
  where
    kept : (k : ℕ) → k < from → k ≤ top → (d : Bool) → ltb k y ≡ d → get_or u (l * width + k) 0 ≡ get_or t (l * width + k) 0
    kept k p o true e = f.below k (ltb-true k y e)
    kept k p o false e = let q = ltb-false k y e in f.beyond k (omega arith) o

    open_below : (x k : ℕ) → k ≤ top → from ≤ k → k < y → member u l x k ≡ (member t l x k || leads t v x k)
    open_below x k p q o = ap (λ (n : ℕ). bit n x) (f.below k o) ∙ or_out (leads_out t v x k (within_below v.low2 v.high2 k p (omega arith)))

    go : (x k : ℕ) → x ≤ top → from ≤ k → k ≤ top → member u l x k ≡ (member t l x k || leads t v x k)
    go x k p q o = by_cases (ltb k y) refl
      where
        by_cases : (d : Bool) → ltb k y ≡ d → member u l x k ≡ (member t l x k || leads t v x k)
        by_cases true e = open_below x k o q (ltb-true k y e)
        by_cases false e = f.above x k p (ltb-false k y e) o
