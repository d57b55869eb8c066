-- Laws of counting: the readings before which a diagonal ends, the rows of a location, and the locations.
-- Assumes nothing.
use mathlib.Core.Path.{◌≡◌, refl, ap, ap₂, sym, ◌∙◌}
use mathlib.Core.Bool.{Bool, true, false, false≢true}
use mathlib.Core.List.{List}
use mathlib.Core.Logic.{◌⊎◌, inl, inr, ⊎_elim, ◌↔◌}
use Prim.Native.Nat.{ℕ, ◌+◌, ◌*◌, ◌-◌, ◌^◌, ◌≤◌, ◌<◌, min}
use native.Mathlib.Omega.{arith}
use lib.Dec.{eqb, ltb}
use lib.ListN.{length, get_or, set, length-set}
use lib.Seq.{get_or-set_same, get_or-set_other}
use lib.Bits.{bit_and, and_le_r}
use lib.Count.{count_trailing_zeros}
use borrow.Author.Tests.{eqb-true, eqb-false, ltb-true, ltb-false, lt-ltb, le-ltb}
use Rattle.enforcement.specs.Limits.{max_count}
use Rattle.enforcement.specs.Automaton.{bit}
use Rattle.enforcement.specs.Model.{top, width}
use Rattle.retimer.specs.Leading.{member}
use Rattle.retimer.specs.Row.{In, Gaps, Highest}
use Rattle.enforcement.proofs.Bits.{none_in, in_below, bit_ones, lowest_is, dropped_is}
use Rattle.retimer.specs.Counts.{diagonals, counts_size, diagonal, position, counted, Closed, place, Lies, Counted, Stored, Rest, LocationAsked, RowsCounted, LocationCounted, CountAsked}
use Rattle.retimer.proofs.sets.Lines.{diagonal_top, position_top, diagonal_small, position_small, diagonal_other, position_min, same_line, line_same, counted_earlier}
use Rattle.retimer.proofs.sets.Tables.{same_or}
use Rattle.retimer.proofs.sets.Closing.{closed_waits, closed_whole}

-- ---- The readings of a row

-- Those that are not left are stored.
pub record Storing (counts new : List ℕ) (l y gaps left : ℕ) : Type 0 where
  pub sized : length new ≡ length counts
  pub small : left < 2 ^ width
  pub within : (x : ℕ) → In x left → In x gaps
  pub here : (x : ℕ) → In x gaps → (In x left → ⊥) → get_or new (place l x y) 0 ≡ width - position x y
  pub other : (j : ℕ) → ((x : ℕ) → In x gaps → j ≡ place l x y → ⊥) → get_or new j 0 ≡ get_or counts j 0

module _ (counts new : List ℕ) (l y gaps left : ℕ) (f : Storing counts new l y gaps left) (p : 0 < left) where
  abbrev t : ℕ
  t = count_trailing_zeros 64 left

  lowest : In t left
  lowest = (lowest_is 64 left (omega (arith, f.small)) p).0

  pub lowest_small : t ≤ top
  lowest_small = omega (arith, in_below width left t f.small lowest)

  pub lowest_diagonal : y < top → diagonal t y < diagonals
  lowest_diagonal g = diagonal_small t y lowest_small (omega arith)

  pub lowest_position : y < top → position t y < width
  lowest_position g = omega (arith, position_min t y g)

  dropped : (x : ℕ) → In x (bit_and left (left - 1)) ↔ (In x left × (x ≡ t → ⊥))
  dropped = dropped_is 64 left (omega (arith, f.small)) p

  pub place_inside : length counts ≡ counts_size → l < max_count → y < top → place l t y < length new
  place_inside s h g = omega (arith, f.sized, lowest_diagonal g)

  module _ (i v : ℕ) (s : length counts ≡ counts_size) (h : l < max_count) (g : y < top) (e : i ≡ place l t y) (d : v ≡ width - position t y) where
    stored : (x : ℕ) → In x gaps → (In x (bit_and left (left - 1)) → ⊥) → (b : Bool) → eqb x t ≡ b → get_or (set new i v) (place l x y) 0 ≡ width - position x y
    stored x m n true z =
        let q = eqb-true x t z in
        let r : place l x y ≡ i = ap (λ (n : ℕ). place l n y) q ∙ sym e in
        ap (λ (j : ℕ). get_or (set new i v) j 0) r ∙ get_or-set_same new i v 0 (omega (arith, place_inside s h g)) ∙ d ∙ ap (λ (n : ℕ). width - position n y) (sym q)
    stored x m n false z =
        let q = eqb-false x t z in
        get_or-set_other new i (place l x y) v 0 (λ r. q (let w = same_line x y t y g g (omega arith) in omega arith)) ∙ f.here x m (λ k. n ((dropped x).1 (k, q)))

    pub storing_more : Storing counts (set new i v) l y gaps (bit_and left (left - 1))
    storing_more = record {
      sized = length-set new i v ∙ f.sized;
      small = omega (arith, and_le_r left (left - 1), f.small);
      within = λ x k. f.within x ((dropped x).0 k).0;
      here = λ x m n. stored x m n (eqb x t) refl;
      other = λ j n. get_or-set_other new i j v 0 (λ r. n t (f.within t lowest) (r ∙ e)) ∙ f.other j n;
    }

pub storing_ended : {counts new : List ℕ} {l y gaps left : ℕ} → Storing counts new l y gaps left → left ≤ 0 → Stored counts new l y gaps
storing_ended {counts} {new} {l} {y} {gaps} {left} f p = record { sized = f.sized; here = λ x m. f.here x m (λ k. none_in x (sym (ap (λ (n : ℕ). bit n x) zero_is) ∙ k)); other = f.other }
  where
    zero_is : left ≡ 0
    zero_is = omega arith

-- ---- The rows of a location

-- The rows before y are counted, and the diagonals that they have go on; `before` is the row before y, with every reading where there is none.
pub record Counting (rows counts new : List ℕ) (l from y before : ℕ) : Type 0 where
  pub sized : length new ≡ counts_size
  pub low : from ≤ y
  pub others : Rest counts new l from
  pub last : (x : ℕ) → x ≤ top → In x before ↔ (from < y → member rows l x (y - 1) ≡ true)
  pub done : (x k : ℕ) → x ≤ top → from ≤ k → k < y → counted new l x k ≡ member rows l x k
  pub rest : (x k : ℕ) → x ≤ top → y ≤ k → k < top → (0 < x → from < k → counted new l (x - 1) (k - 1) ≡ true) → counted new l x k ≡ true

-- Where the counts have 0, they have the configuration.
empty_counted : (counts : List ℕ) (l x y : ℕ) → x ≤ top → y ≤ top → get_or counts (place l x y) 0 ≡ 0 → counted counts l x y ≡ true
empty_counted counts l x y p q e = lt-ltb (position x y + get_or counts (place l x y) 0) width (omega (arith, position_small x y p q))

pub counting_begun : {rows counts : List ℕ} {l from : ℕ} → LocationAsked rows counts l from → Counting rows counts counts l from from (2 ^ 64 - 1)
counting_begun {rows} {counts} {l} {from} a = record {
  sized = a.sized;
  low = omega arith;
  others = λ j n. refl;
  last = λ x p. (λ m k. absurd (omega arith), λ m. bit_ones 64 x (omega arith));
  done = λ x k p q o. absurd (omega arith);
  rest = λ x k p q o h. empty_counted counts l x k p (omega arith) (a.empty (diagonal x k) (diagonal_small x k p (omega arith)));
}

module _ {rows counts new u : List ℕ} {l from y before v : ℕ} (closed : Closed rows from l) (f : Counting rows counts new l from y before) (below : y < top) (gaps : Gaps (get_or rows (l * width + y) 0) before v) (s : Stored new u l y v) where
  -- A gap of the row lies on the diagonal of two readings. It ends before the gap then, and else is as it was.
  abbrev Gap : ℕ → ℕ → Type 0
  Gap x z = (a : ℕ) × In a v × (a + z ≡ x + y)

  gap_or_not : (x z : ℕ) → Gap x z ⊎ (Gap x z → ⊥)
  gap_or_not x z = go (ltb (x + y) z) refl (bit v (x + y - z)) refl
    where
      go : (c : Bool) → ltb (x + y) z ≡ c → (d : Bool) → bit v (x + y - z) ≡ d → Gap x z ⊎ (Gap x z → ⊥)
      go true e d g = inr (λ w. let h = ltb-true (x + y) z e in omega (arith, w.2))
      go false e true g = let h = ltb-false (x + y) z e in inl (x + y - z, g, omega arith)
      go false e false g = inr (λ w. let h : x + y - z ≡ w.0 = omega (arith, w.2) in false≢true (sym g ∙ ap (bit v) h ∙ w.1))

  ended : (x z : ℕ) → z < top → (w : Gap x z) → counted u l x z ≡ ltb (position x z + (width - position w.0 y)) width
  ended x z o w =
      let d : diagonal x z ≡ diagonal w.0 y = line_same x z w.0 y o below (omega (arith, w.2)) in
      ap (λ (n : ℕ). ltb (position x z + n) width) (ap (λ (n : ℕ). get_or u (l * diagonals + n) 0) d ∙ s.here w.0 w.1)

  kept : (x z : ℕ) → z < top → (Gap x z → ⊥) → counted u l x z ≡ counted new l x z
  kept x z o n = ap (λ (n : ℕ). ltb (position x z + n) width) (s.other (place l x z) (λ a m q. n (a, m, let w = same_line x z a y o below (omega arith) in omega arith)))

  -- The row that is counted now.
  here : (x : ℕ) → x ≤ top → counted u l x y ≡ member rows l x y
  here x p = go (member rows l x y) refl (gap_or_not x y)
    where
      -- What the counts have and the row has not is a gap.
      gap : member rows l x y ≡ false → counted new l x y ≡ true → Gap x y
      gap m n = (x, (gaps.right x).1 (p, λ i. false≢true (sym m ∙ i), λ z e. (f.last z (omega arith)).1 (had z e)), refl)
        where
          had : (z : ℕ) → x ≡ z + 1 → from < y → member rows l z (y - 1) ≡ true
          had z e h =
              let a = position_min z (y - 1) (omega arith) in
              let b = position_min x y below in
              sym (f.done z (y - 1) (omega arith) (omega arith) (omega arith)) ∙ counted_earlier new l z (y - 1) x y (line_same z (y - 1) x y (omega arith) below (omega arith)) (omega arith) n

      goes_on : member rows l x y ≡ true → counted new l x y ≡ true
      goes_on m = f.rest x y p (omega arith) below (λ h g. f.done (x - 1) (y - 1) (omega arith) (omega arith) (omega arith) ∙ closed (x - 1) (y - 1) (omega arith) (omega arith) (omega arith) (moved h g))
        where
          moved : 0 < x → from < y → member rows l (min (x - 1 + 1) top) (min (y - 1 + 1) top) ≡ true
          moved h g =
              let i : min (x - 1 + 1) top ≡ x = omega arith in
              let j : min (y - 1 + 1) top ≡ y = omega arith in
              rw (i, j) m

      none : (c : Bool) → counted new l x y ≡ c → member rows l x y ≡ false → (Gap x y → ⊥) → c ≡ false
      none false e m n = refl
      none true e m n = absurd (n (gap m e))

      go : (c : Bool) → member rows l x y ≡ c → Gap x y ⊎ (Gap x y → ⊥) → counted u l x y ≡ c
      go true m (inl w) = let e : w.0 ≡ x = omega (arith, w.2) in absurd (((gaps.right w.0).0 w.1).1 (ap (λ (n : ℕ). member rows l n y) e ∙ m))
      go false m (inl w) =
          let a = position_min x y below in
          let b = position_min w.0 y below in
          ended x y below w ∙ le-ltb (position x y + (width - position w.0 y)) width (omega (arith, w.2))
      go true m (inr n) = kept x y below n ∙ goes_on m
      go false m (inr n) = kept x y below n ∙ none (counted new l x y) refl m n

  -- The rows that were counted before: a gap of this row comes after what their diagonals have.
  earlier : (x z : ℕ) → x ≤ top → from ≤ z → z < y → counted u l x z ≡ member rows l x z
  earlier x z p q o = ⊎_elim hit (λ n. kept x z (omega arith) n ∙ f.done x z p q o) (gap_or_not x z)
    where
      hit : Gap x z → counted u l x z ≡ member rows l x z
      hit w =
          let g = (gaps.right w.0).0 w.1 in
          let b : ℕ = w.0 - 1 in
          let e : w.0 ≡ b + 1 = omega (arith, w.2) in
          let i = position_min x z (omega arith) in
          let j = position_min w.0 y below in
          let k = position_min b (y - 1) (omega arith) in
          let m : member rows l b (y - 1) ≡ true = (f.last b (omega (arith, g.0))).0 (g.2 b e) (omega arith) in
          let n = counted_earlier new l x z b (y - 1) (line_same x z b (y - 1) (omega arith) (omega arith) (omega (arith, w.2))) (omega (arith, w.2)) (f.done b (y - 1) (omega (arith, g.0)) (omega arith) (omega arith) ∙ m) in
          ended x z (omega arith) w ∙ lt-ltb (position x z + (width - position w.0 y)) width (omega (arith, w.2, g.0)) ∙ sym (sym (f.done x z p q o) ∙ n)

  up_to : (x z : ℕ) → x ≤ top → from ≤ z → z < y + 1 → counted u l x z ≡ member rows l x z
  up_to x z p q o = same_or z y (λ e. rw e (here x p)) (λ ne. earlier x z p q (omega arith))

  -- The rows that are left: a diagonal that ends has nothing there.
  later : (x z : ℕ) → x ≤ top → y + 1 ≤ z → z < top → (0 < x → from < z → counted u l (x - 1) (z - 1) ≡ true) → counted u l x z ≡ true
  later x z p q o h = ⊎_elim hit miss (gap_or_not x z)
    where
      hit : Gap x z → counted u l x z ≡ true
      hit w =
          let a = w.0 in
          let i = position_min a y below in
          let j = position_min (x - 1) (z - 1) (omega arith) in
          let g = sym (ended (x - 1) (z - 1) (omega arith) (a, w.1, omega (arith, w.2))) ∙ h (omega (arith, w.2)) (omega (arith, f.low)) in
          absurd (omega (arith, w.2, ltb-true (position (x - 1) (z - 1) + (width - position a y)) width g))

      miss : (Gap x z → ⊥) → counted u l x z ≡ true
      miss n = kept x z o n ∙ f.rest x z p (omega arith) o (λ a b. sym (kept (x - 1) (z - 1) (omega arith) (λ w. n (w.0, w.1, omega (arith, w.2)))) ∙ h a b)

  pub counting_more : Counting rows counts u l from (y + 1) (get_or rows (l * width + y) 0)
  counting_more = record {
    sized = s.sized ∙ f.sized;
    low = omega (arith, f.low);
    others = λ j n. s.other j (λ x m q. n (x, y, ((gaps.right x).0 m).0, f.low, omega arith, q)) ∙ f.others j n;
    last = λ x p. let e : y + 1 - 1 ≡ y = omega arith in (λ m h. ap (member rows l x) e ∙ m, λ m. sym (ap (member rows l x) e) ∙ m (omega (arith, f.low)));
    done = up_to;
    rest = later;
  }

-- ---- The saturated row

-- With the saturated configuration the rows have every one of the location.
pub whole_counted : {rows counts : List ℕ} {l from : ℕ} → LocationAsked rows counts l from → member rows l top top ≡ true → LocationCounted rows counts counts l from
whole_counted {rows} {counts} {l} {from} a m = record {
  sized = a.sized;
  rest = λ j n. refl;
  right = λ x y p q o. empty_counted counts l x y p o (a.empty (diagonal x y) (diagonal_small x y p o)) ∙ sym (closed_whole rows l from a.closed m x y p q o);
}

module _ {rows counts new : List ℕ} {l from v : ℕ} (a : LocationAsked rows counts l from) (f : RowsCounted rows counts new l from) (g : Highest (get_or rows (l * width + top) 0) v) where
  abbrev i : ℕ
  i = l * diagonals

  -- The readings of the saturated row are those up to its highest.
  saturated : (x : ℕ) → x ≤ top → ltb (x + (width - v)) width ≡ member rows l x top
  saturated x p = go (ltb (x + (width - v)) width) refl (member rows l x top) refl
    where
      go : (c : Bool) → ltb (x + (width - v)) width ≡ c → (d : Bool) → member rows l x top ≡ d → c ≡ d
      go true e true m = refl
      go false e false m = refl
      go false e true m = let z = ltb-false (x + (width - v)) width e in absurd (omega (arith, g.all x p m))
      go true e false m =
          let z = ltb-true (x + (width - v)) width e in
          let j : min (x + (v - 1 - x)) top ≡ v - 1 = omega (arith, g.most) in
          let k : min (top + (v - 1 - x)) top ≡ top = omega arith in
          sym (sym m ∙ closed_waits rows l from a.closed (v - 1 - x) x top p a.from_fits (omega arith) (rw (j, k) (g.last (v - 1) (omega (arith, g.most)))))

  pub location_counted : LocationCounted rows counts (set new i (width - v)) l from
  location_counted = record {
    sized = length-set new i (width - v) ∙ f.sized;
    rest = λ j n. get_or-set_other new i j (width - v) 0 (λ e. n (0, top, omega arith, a.from_fits, omega arith, let z = diagonal_top 0 top refl in omega arith)) ∙ f.rest j n;
    right = λ x z p q o. same_or z top (λ e. rw e (last x p)) (λ ne. below x z p q (omega arith));
  }
    where
      last : (x : ℕ) → x ≤ top → counted (set new i (width - v)) l x top ≡ member rows l x top
      last x p =
          let k : l * diagonals + 0 ≡ i = omega arith in
          ap₂ (λ (m n : ℕ). ltb (m + get_or (set new i (width - v)) (l * diagonals + n) 0) width) (sym (position_top x top refl)) (sym (diagonal_top x top refl)) ∙ ap (λ (n : ℕ). ltb (x + get_or (set new i (width - v)) n 0) width) k ∙ ap (λ (n : ℕ). ltb (x + n) width) (get_or-set_same new i (width - v) 0 (omega (arith, f.sized, a.in_range))) ∙ saturated x p

      below : (x z : ℕ) → x ≤ top → from ≤ z → z < top → counted (set new i (width - v)) l x z ≡ member rows l x z
      below x z p q o = ap (λ (n : ℕ). ltb (position x z + n) width) (get_or-set_other new i (place l x z) (width - v) 0 (λ d. diagonal_other x z o (omega arith))) ∙ f.right x z p q o

-- ---- The locations

-- Configurations of other locations lie elsewhere.
lies_apart : (k l from i : ℕ) → i < diagonals → (k ≡ l → ⊥) → Lies l from (k * diagonals + i) → ⊥
lies_apart k l from i h ne z = ne (let w = diagonal_small z.0 z.1 z.2 z.4 in omega (arith, z.5))

-- The first n locations are counted; where none of their configurations lies the counts are 0.
pub record CountingAll (rows new : List ℕ) (n from : ℕ) : Type 0 where
  pub sized : length new ≡ counts_size
  pub right : (l x y : ℕ) → l < n → x ≤ top → from ≤ y → y ≤ top → counted new l x y ≡ member rows l x y
  pub empty : (j : ℕ) → ((l : ℕ) → l < n → Lies l from j → ⊥) → get_or new j 0 ≡ 0

pub all_begun : {rows counts : List ℕ} {n from : ℕ} → CountAsked rows counts n from → CountingAll rows counts 0 from
all_begun a = record { sized = a.sized; right = λ l x y h p q o. absurd (omega arith); empty = λ j n. a.empty j }

pub all_asked : {rows counts new : List ℕ} {n l from : ℕ} → CountAsked rows counts n from → CountingAll rows new l from → l < n → LocationAsked rows new l from
all_asked {l = l} {from = from} a f h = record { rows_sized = a.rows_sized; sized = f.sized; in_range = omega (arith, a.in_range); from_fits = a.from_fits; closed = a.closed l h; empty = λ i g. f.empty (l * diagonals + i) (λ k o. lies_apart l k from i g (λ e. omega arith)) }

pub all_more : {rows new u : List ℕ} {l from : ℕ} → CountingAll rows new l from → LocationCounted rows new u l from → CountingAll rows u (l + 1) from
all_more {rows} {new} {u} {l} {from} f c = record {
  sized = c.sized;
  right = λ k x y h p q o. go k x y h p q o (eqb k l) refl;
  empty = λ j n. c.rest j (n l (omega arith)) ∙ f.empty j (λ k h. n k (omega arith));
}
  where
    go : (k x y : ℕ) → k < l + 1 → x ≤ top → from ≤ y → y ≤ top → (b : Bool) → eqb k l ≡ b → counted u k x y ≡ member rows k x y
    go k x y h p q o true e = rw (eqb-true k l e) (c.right x y p q o)
    go k x y h p q o false e =
        let ne = eqb-false k l e in
        ap (λ (n : ℕ). ltb (position x y + n) width) (c.rest (place k x y) (lies_apart k l from (diagonal x y) (diagonal_small x y p o) ne)) ∙ f.right k x y (omega arith) p q o

pub all_ended : {rows new : List ℕ} {l from : ℕ} (n : ℕ) → CountingAll rows new l from → n ≤ l → l ≤ n → Counted rows new n from
all_ended n f h g = record { sized = f.sized; rest = λ j k. f.empty j (λ l o. k l (omega arith)); right = λ l x y d p q o. f.right l x y (omega arith) p q o }
