-- The set of one configuration, empty sets, and the size of a set.
-- Assumes nothing.
use mathlib.Core.Path.{◌≡◌, refl, ap, sym, ◌∙◌, subst⁻¹}
use mathlib.Core.Bool.{Bool, true, false, cond}
use mathlib.Core.List.{List}
use mathlib.Core.Logic.{◌↔◌}
use Prim.Native.Nat.{ℕ, ◌+◌, ◌*◌, ◌%◌, ◌^◌, ◌≤◌, ◌<◌, ◌-◌}
use native.Mathlib.Omega.{arith}
use native.Mathlib.Nat.{one-mul}
use lib.Dec.{eqb, ltb}
use lib.ListN.{length, get_or, set, take, replicate, length-set, length-replicate, get_or-eq_default}
use lib.Seq.{get_or-set_same, get_or-set_other, get_or-take, length-take-le}
use lib.Pow.{pow_pos, pow-lt, shl_exact}
use borrow.Author.Tests.{eqb-true, eqb-false, ltb-true, ltb-false}
use Rattle.enforcement.specs.Limits.{max_count}
use Rattle.enforcement.specs.Automaton.{Bytes, clocks, locations}
use Rattle.enforcement.specs.Loading.{WellFormed}
use Rattle.enforcement.specs.TimedWord.{Configuration}
use Rattle.enforcement.specs.Model.{width}
use Rattle.enforcement.proofs.Loading.{header}
use Rattle.enforcement.proofs.Bits.{none_in, power_in}
use Rattle.retimer.specs.Readings.{located, Standing}
use Rattle.retimer.specs.Row.{In}
use Rattle.retimer.specs.Sets.{second, height, at, Marked, Contains, Whole, Empty, Single}
use Rattle.retimer.proofs.Arrays.{zero_at}
use Rattle.retimer.proofs.sets.Waiting.{in_same, narrow_set}
use Rattle.retimer.proofs.sets.Parts.{rows_end}
use Rattle.retimer.proofs.sets.Setting.{point, height_most, rows_inside}
use Rattle.retimer.proofs.sets.Landing.{at_row, contains_at}

-- Rows of different locations are different.
same_row : (h t l i j : ℕ) → i < h → j < h → t * h + i ≡ l * h + j → (t ≡ l) × (i ≡ j)
same_row h t l i j a b e = go (eqb t l) refl
  where
    go : (c : Bool) → eqb t l ≡ c → (t ≡ l) × (i ≡ j)
    go true x = let z = eqb-true t l x in (z, let q : t * h ≡ l * h = ap (λ (n : ℕ). n * h) z in omega arith)
    go false x = absurd (apart (ltb t l) refl)
      where
        z : t ≡ l → ⊥
        z = eqb-false t l x

        apart : (c : Bool) → ltb t l ≡ c → ⊥
        apart true y = let q = rows_end h (ltb-true t l y) in omega arith
        apart false y = let w = ltb-false t l y in let q = rows_end h {t = l} {u = t} (omega (arith, z)) in omega arith

module _ (s : Bytes) (l : ℕ) (r : List ℕ) (old : List ℕ) (h w y : ℕ) (b : Empty s old) (loads : WellFormed s) (stands : Standing s l r) (e : h ≡ height s) (f : w ≡ l) (g : y ≡ get_or r 1 0) where
  one_clock_row : (c : Bool) → eqb (clocks s) 1 ≡ c → width ≤ get_or r 1 0 + cond c 1 width
  one_clock_row true x = omega (arith, stands.one_clock (eqb-true (clocks s) 1 x))
  one_clock_row false x = omega arith

  pub row_above : width ≤ y + h
  row_above = let z = one_clock_row (eqb (clocks s) 1) refl in omega arith

  -- The row of the second reading.
  abbrev i : ℕ
  i = y + h - width

  i_inside : i < height s
  i_inside = omega (arith, stands.readings.second, (height_most s).0)

  i_second : second (height s) i ≡ get_or r 1 0
  i_second = omega (arith, row_above, (height_most s).1)

  pub place_inside : (w * h + i < length old) × (length old ≤ max_count * width)
  place_inside =
      let z = rows_inside s old w h loads (record { sized = b.sized; narrow = λ j. rw (b.empty j) (pow_pos width) }) (omega (arith, stands.in_sheet)) e in
      (omega (arith, z.0, i_inside), z.1)

  pub place_small : l < max_count
  place_small = omega (arith, stands.in_sheet, (header s loads).locations_fit)

  v : ℕ
  v = (1 * 2 ^ get_or r 0 0) % 2 ^ 64

  v_is : v ≡ 2 ^ get_or r 0 0
  unfolding v
  v_is = shl_exact 1 (get_or r 0 0) 64 (omega arith) (omega (arith, stands.readings.first)) ∙ one-mul (2 ^ get_or r 0 0)

  v_small : v < 2 ^ width
  v_small = rw v_is (pow-lt {i = get_or r 0 0} {j = width} (omega (arith, stands.readings.first)))

  place_is : w * h + i ≡ l * height s + i
  place_is = ap (λ (n : ℕ). n * h + i) f ∙ ap (λ (n : ℕ). l * n + i) e

  -- The readings of the configuration, and of no other.
  only : (t x j : ℕ) → j < height s → Marked (height s) (set old (w * h + i) v) t x j ↔ (at (height s) t x j ≡ located l r)
  only t x j k = go (eqb (t * height s + j) (w * h + i)) refl
    where
      go : (c : Bool) → eqb (t * height s + j) (w * h + i) ≡ c → Marked (height s) (set old (w * h + i) v) t x j ↔ (at (height s) t x j ≡ located l r)
      go true z =
          let q = eqb-true (t * height s + j) (w * h + i) z in
          let u = same_row (height s) t l j i k i_inside (q ∙ place_is) in
          let row : get_or (set old (w * h + i) v) (t * height s + j) 0 ≡ 2 ^ get_or r 0 0 = ap (λ (n : ℕ). get_or (set old (w * h + i) v) n 0) q ∙ get_or-set_same old (w * h + i) v 0 place_inside.0 ∙ v_is in (
            λ m. let a = (power_in (get_or r 0 0) x).0 (in_same x row m) in point u.0 a (ap (second (height s)) u.1 ∙ i_second),
            λ m. in_same x (sym row) ((power_in (get_or r 0 0) x).1 (ap (λ (q : Configuration). q.x) m)),
          )
      go false z =
          let q = eqb-false (t * height s + j) (w * h + i) z in
          let row : get_or (set old (w * h + i) v) (t * height s + j) 0 ≡ 0 = get_or-set_other old (w * h + i) (t * height s + j) v 0 q ∙ b.empty (t * height s + j) in (
            λ m. absurd (none_in x (in_same x row m)),
            λ m. absurd (q (let a = ap (λ (q : Configuration). q.location) m in let c = ap (λ (q : Configuration). q.y) m in let d : j ≡ i = omega (arith, i_second) in ap (λ (n : ℕ). n * height s + j) a ∙ ap (λ (n : ℕ). l * height s + n) d ∙ sym place_is)),
          )

  here : located l r ≡ at (height s) l (get_or r 0 0) i
  here = point refl refl (sym i_second)

  pub single : Single s (located l r) (set old (w * h + i) ((1 * 2 ^ get_or r 0 0) % 2 ^ 64)) ((1 * 2 ^ l) % 2 ^ 16)
  unfolding v
  single = record {
    reached = record {
      whole = record { sized = length-set old (w * h + i) v ∙ b.sized; narrow = narrow_set old (w * h + i) v (λ j. rw (b.empty j) (pow_pos width)) v_small };
      known = λ t m. let z = (place t).0 m in omega (arith, stands.in_sheet);
      members = λ t. (λ m. (located l r, sym ((place t).0 m), found refl), λ m. (place t).1 (sym m.1 ∙ ap (λ (q : Configuration). q.location) (alone m.0 m.2)));
    };
    only = λ p. (alone p, found);
  }
    where
      place : (t : ℕ) → In t ((1 * 2 ^ l) % 2 ^ 16) ↔ (t ≡ l)
      place t = let z : (1 * 2 ^ l) % 2 ^ 16 ≡ 2 ^ l = shl_exact 1 l 16 (omega arith) (omega (arith, place_small)) ∙ one-mul (2 ^ l) in rw z (power_in l t)

      alone : (p : Configuration) → Contains s (set old (w * h + i) v) p → p ≡ located l r
      alone p m = at_row m ∙ (only p.location p.x m.row m.inside).0 m.holds

      found : {p : Configuration} → p ≡ located l r → Contains s (set old (w * h + i) v) p
      found e = subst⁻¹ (Contains s (set old (w * h + i) v)) (e ∙ here) (contains_at i_inside ((only l (get_or r 0 0) i i_inside).1 (sym here)))

-- ---- Empty sets

pub empty_whole : {s : Bytes} {old : List ℕ} → Empty s old → Whole s old
empty_whole b = record { sized = b.sized; narrow = λ j. rw (b.empty j) (pow_pos width) }

-- The first n of m zeros.
module _ (n m : ℕ) (h : n ≤ m) where
  abbrev zeros : List ℕ
  zeros = replicate m 0

  pub first_length : length (take n zeros) ≡ n
  first_length = length-take-le n zeros (omega (arith, length-replicate {A = ℕ} m 0))

  first_at : (i : ℕ) (b : Bool) → ltb i n ≡ b → get_or (take n zeros) i 0 ≡ 0
  first_at i true z = get_or-take n zeros i 0 (ltb-true i n z) ∙ zero_at m i
  first_at i false z = get_or-eq_default (take n zeros) 0 {n = i} (omega (arith, first_length, ltb-false i n z))

  pub empty_front : (s : Bytes) → n ≡ locations s * height s → Empty s (take n zeros)
  empty_front s e = record { sized = first_length ∙ e; empty = λ i. first_at i (ltb i n) refl }

-- ---- The size of a set

module _ (s : Bytes) (n : ℕ) (loads : WellFormed s) where
  -- The array for either number of clocks has room for a set.
  pub room_two : n ≡ locations s * height s → n ≤ max_count * width
  room_two k = go (eqb (clocks s) 1) k
    where
      go : (b : Bool) → n ≡ locations s * cond b 1 width → n ≤ max_count * width
      go true e = omega (arith, (header s loads).locations_fit)
      go false e = omega (arith, (header s loads).locations_fit)
