-- Laws of the search for a member that the counts have: the readings of a row, the rows of a location, and the locations.
-- Assumes nothing.
use mathlib.Core.Path.{◌≡◌, refl, ap, sym, ◌∙◌}
use mathlib.Core.Bool.{Bool, true, false, false≢true}
use mathlib.Core.List.{List}
use mathlib.Core.Logic.{◌⊎◌, inl, inr, ⊎_elim, ◌↔◌}
use Prim.Native.Nat.{ℕ, ◌+◌, ◌*◌, ◌^◌, ◌≤◌, ◌<◌, ◌-◌}
use native.Mathlib.Omega.{arith}
use native.Mathlib.Nat.{mul-le-mul_right}
use lib.Dec.{eqb, ltb}
use lib.ListN.{length, get_or}
use lib.Bits.{bit_and, and_le_r}
use lib.Count.{count_trailing_zeros}
use lib.Pow.{pow_pos}
use borrow.Author.Tests.{eqb-true, eqb-false, ltb-true, ltb-false}
use Rattle.enforcement.specs.Limits.{max_count}
use Rattle.enforcement.specs.Automaton.{Bytes, bit, locations}
use Rattle.enforcement.specs.Model.{top, width}
use Rattle.retimer.specs.Row.{In, Fresh}
use Rattle.retimer.specs.Sets.{second, height, at, Marked}
use Rattle.retimer.proofs.sets.Setting.{height_most}
use Rattle.retimer.proofs.sets.Landing.{contains_at, reached_covers}
use Rattle.enforcement.proofs.Bits.{none_in, in_below, lowest_is, dropped_is}
use Rattle.retimer.proofs.sets.Parts.{rows_end}
use Rattle.retimer.specs.Counts.{counted}
use Rattle.retimer.specs.Meeting.{RowAsked, MeetsRow, RowsAsked, MeetsAt, Covered, MeetAsked, Meets}
use Rattle.retimer.proofs.sets.Lines.{diagonal_top, position_top, position_min, line_same, counted_earlier}

-- ---- The readings of a row

-- The readings that are left decide: the counts have none that is gone.
pub record Left (counts : List ℕ) (l y row left : ℕ) : Type 0 where
  pub small : left < 2 ^ width
  pub within : (x : ℕ) → In x left → In x row
  pub gone : (x : ℕ) → In x row → In x left ⊎ (counted counts l x y ≡ false)

pub left_begun : {counts : List ℕ} {l y row : ℕ} → RowAsked counts l y row → Left counts l y row row
left_begun h = record { small = h.small; within = λ x m. m; gone = λ x m. inl m }

module _ (counts : List ℕ) (l y row left : ℕ) (m : Left counts l y row left) where
  lowest : 0 < left → In (count_trailing_zeros 64 left) left
  lowest p = (lowest_is 64 left (omega (arith, m.small)) p).0

  pub left_small : 0 < left → count_trailing_zeros 64 left ≤ top
  left_small p = omega (arith, in_below width left (count_trailing_zeros 64 left) m.small (lowest p))

  pub left_found : 0 < left → counted counts l (count_trailing_zeros 64 left) y ≡ true → MeetsRow counts l y row
  left_found p e = (count_trailing_zeros 64 left, m.within (count_trailing_zeros 64 left) (lowest p), e)

  pub left_more : 0 < left → counted counts l (count_trailing_zeros 64 left) y ≡ false → Left counts l y row (bit_and left (left - 1))
  left_more p e = record {
    small = omega (arith, and_le_r left (left - 1), m.small);
    within = λ x k. m.within x ((d x).0 k).0;
    gone = λ x k. ⊎_elim (λ n. go x n (eqb x (count_trailing_zeros 64 left)) refl) inr (m.gone x k);
  }
    where
      d : (x : ℕ) → In x (bit_and left (left - 1)) ↔ (In x left × (x ≡ count_trailing_zeros 64 left → ⊥))
      d = dropped_is 64 left (omega (arith, m.small)) p

      go : (x : ℕ) → In x left → (b : Bool) → eqb x (count_trailing_zeros 64 left) ≡ b → In x (bit_and left (left - 1)) ⊎ (counted counts l x y ≡ false)
      go x n true z = inr (ap (λ (i : ℕ). counted counts l i y) (eqb-true x (count_trailing_zeros 64 left) z) ∙ e)
      go x n false z = inl ((d x).1 (n, eqb-false x (count_trailing_zeros 64 left) z))

  pub left_none : left ≤ 0 → (false ≡ true) ↔ MeetsRow counts l y row
  left_none p = (λ e. absurd (false≢true e), λ w. absurd (⊎_elim (λ k. none_in w.0 (sym (ap (λ (n : ℕ). bit n w.0) zero_is) ∙ k)) (λ e. false≢true (sym e ∙ w.2)) (m.gone w.0 w.1)))
    where
      zero_is : left ≡ 0
      zero_is = omega arith

-- ---- The saturated row

module _ (counts : List ℕ) (l row : ℕ) (a : RowAsked counts l top row) (some : row ≡ 0 → ⊥) where
  abbrev t : ℕ
  t = count_trailing_zeros 64 row

  least : In t row × ((x : ℕ) → In x row → t ≤ x)
  least = lowest_is 64 row (omega (arith, a.small)) (omega arith)

  pub least_small : t ≤ top
  least_small = omega (arith, in_below width row t a.small least.0)

  pub saturated_right : (b : Bool) → b ≡ counted counts l t top → (b ≡ true) ↔ MeetsRow counts l top row
  saturated_right b e = (λ d. (t, least.0, sym e ∙ d), λ w. e ∙ counted_earlier counts l t top w.0 top (sym (diagonal_top t top refl) ∙ diagonal_top w.0 top refl) (omega (arith, position_top t top refl, position_top w.0 top refl, least.1 w.0 w.1)) w.2)

-- ---- The rows of a location

-- The counts have no reading of the first n rows.
abbrev pub NoneMet : List ℕ → ℕ → List ℕ → ℕ → ℕ → Type 0
NoneMet counts l set h n = (x i : ℕ) → i < n → Marked h set l x i → counted counts l x (second h i) ≡ true → ⊥

-- The readings in the row before row i.
pub record Before (set : List ℕ) (l h i before : ℕ) : Type 0 where
  pub small : before < 2 ^ width
  pub right : (z : ℕ) → In z before → (j : ℕ) × (i ≡ j + 1) × Marked h set l z j

pub before_none : (set : List ℕ) (l h : ℕ) → Before set l h 0 0
before_none set l h = record { small = pow_pos width; right = λ z m. absurd (none_in z m) }

-- The rows of a location lie in the set, and their places are small numbers.
pub rows_inside : {counts set : List ℕ} {h : ℕ} (l a : ℕ) → RowsAsked counts set (l + 1) h → l < max_count → a ≡ l * h → (a + h ≤ length set) × (a + h ≤ max_count * width)
rows_inside {counts} {set} {h} l a s k e =
    let b : l * h + h ≤ max_count * h = rows_end h k in
    let c : l * h + h ≤ (l + 1) * h = rows_end h (omega arith) in
    (omega (arith, s.sized), omega (arith, s.most))

module _ (counts : List ℕ) (l : ℕ) (set : List ℕ) (h i a : ℕ) (s : RowsAsked counts set (l + 1) h) (k : l < max_count) (e : a ≡ l * h) where
  row_is : get_or set (a + i) 0 ≡ get_or set (l * h + i) 0
  row_is = ap (λ (n : ℕ). get_or set (n + i) 0) e

  pub before_more : Before set l h (i + 1) (get_or set (a + i) 0)
  before_more = record { small = s.narrow (a + i); right = λ z m. (i, refl, sym (ap (λ (n : ℕ). bit n z) row_is) ∙ m) }

  module _ (before v : ℕ) (fresh : Fresh (get_or set (a + i) 0) before v) (less : i < h - 1) where
    pub row_none : Before set l h i before → NoneMet counts l set h i → (MeetsRow counts l (width - h + i) v → ⊥) → NoneMet counts l set h (i + 1)
    row_none b n z x j m held has = go (eqb j i) refl
      where
        here : j ≡ i → Marked h set l x i
        here q = sym (ap (λ (r : ℕ). bit (get_or set (l * h + r) 0) x) q) ∙ held

        has_here : j ≡ i → counted counts l x (second h i) ≡ true
        has_here q = sym (ap (λ (r : ℕ). counted counts l x (second h r)) q) ∙ has

        -- A tick after a member of the row before.
        earlier : j ≡ i → (u : ℕ) → In u before → x ≡ u + 1 → ⊥
        earlier q u d p =
            let c = b.right u d in
            let o : second h i < top = omega (arith, s.some, s.most) in
            let r : second h c.0 < top = omega (arith, s.some, s.most, c.1) in
            let f = position_min u (second h c.0) r in
            let g = position_min x (second h i) o in
            n u c.0 (omega (arith, c.1)) c.2 (counted_earlier counts l u (second h c.0) x (second h i) (line_same u (second h c.0) x (second h i) r o (omega (arith, c.1))) (omega (arith, c.1)) (has_here q))

        go : (c : Bool) → eqb j i ≡ c → ⊥
        go true q =
            let r = eqb-true j i q in
            z (x, (fresh.right x).1 (ap (λ (n : ℕ). bit n x) row_is ∙ here r, earlier r), has_here r)
        go false q = let r = eqb-false j i q in n x j (omega arith) held has

-- ---- The locations

-- The counts have no member of the first n locations.
abbrev pub NoneBelow : List ℕ → List ℕ → ℕ → ℕ → Type 0
NoneBelow counts set h n = (l : ℕ) → l < n → MeetsAt counts l set h → ⊥

pub below_more : (counts set : List ℕ) (h n : ℕ) → NoneBelow counts set h n → (MeetsAt counts n set h → ⊥) → NoneBelow counts set h (n + 1)
below_more counts set h n k z l m w = go (eqb l n) refl
  where
    go : (b : Bool) → eqb l n ≡ b → ⊥
    go true y = z (rw (eqb-true l n y) at w)
    go false y = let q = eqb-false l n y in k l (omega arith) w

-- A location that is not among the places has no member.
pub none_at : (counts set : List ℕ) (places n h l : ℕ) → Covered set places n h → bit places l ≡ false → MeetsAt counts l set h → ⊥
none_at counts set places n h l c e w = false≢true (sym e ∙ (c l w.0 w.1 w.2 w.3).0)

pub below_none : (counts set : List ℕ) (places n h l : ℕ) → Covered set places n h → n ≤ l → NoneBelow counts set h l → (false ≡ true) ↔ ((t : ℕ) × MeetsAt counts t set h)
below_none counts set places n h l c m k = (λ e. absurd (false≢true e), λ w. absurd (k w.0 (let q = (c w.0 w.1.0 w.1.1 w.1.2 w.1.3).1 in omega arith) w.1))

-- ---- By membership alone

module _ {s : Bytes} {counts set : List ℕ} {places : ℕ} (a : MeetAsked s counts set places) where
  pub rows_asked : RowsAsked counts set (locations s) (height s)
  rows_asked = record { counts_sized = a.counts_sized; some = (height_most s).0; most = (height_most s).1; sized = omega (arith, a.reached.whole.sized); narrow = a.reached.whole.narrow }

  pub all_covered : Covered set places (locations s) (height s)
  all_covered l x i h m = let k = reached_covers a.reached l x i h m in (k, a.reached.known l k)

  pub meets_members : ((l : ℕ) × MeetsAt counts l set (height s)) ↔ Meets s counts set
  meets_members = (
    λ w. let v = w.1 in (at (height s) w.0 v.0 v.1, contains_at v.2 v.3, v.4),
    λ w. let m = w.1 in (w.0.location, (w.0.x, m.row, m.inside, m.holds, ap (counted counts w.0.location w.0.x) (sym m.reads) ∙ w.2)),
  )
