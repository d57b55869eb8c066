-- Laws of the operations on a row.
-- Assumes nothing.
use mathlib.Core.Path.{◌≡◌, refl, ap, sym, ◌∙◌}
use mathlib.Core.Bool.{Bool, true, false, ◌||◌, and-true, and-false, or-false}
use mathlib.Core.Logic.{◌⊎◌, inl, inr, ⊎_elim, ◌↔◌}
use Prim.Native.Nat.{ℕ, zero, suc, ◌+◌, ◌*◌, ◌-◌, ◌/◌, ◌%◌, ◌^◌, ◌≤◌, ◌<◌, min}
use native.Mathlib.Omega.{arith}
use native.Mathlib.Nat.{lt_of_le_of_lt, mod-lt, pow-suc, one-mul, div-eq_of_lt-le}
use lib.Dec.{eqb, ltb}
use lib.Pow.{pow_pos, pow_mono, shl_exact}
use lib.Bits.{bit_or, bit_and, bit_xor, or_lt, and_le_l}
use lib.Count.{count_leading_zeros, leading_length, count_trailing_zeros}
use borrow.Author.Tests.{eq-eqb, ne_eqb, eqb-true, eqb-false, ltb-true, ltb-false}
use Rattle.enforcement.specs.Automaton.{bit}
use Rattle.enforcement.specs.Model.{top, width}
use Rattle.enforcement.proofs.Bits.{bit_of_or, bit_of_and, bit_none, bit_shifted, bit_low, bit_high, bit_power, bit_ones, bit_lowest, bit_half, none_in, in_below, in_or, in_and, in_without, interval_in, power_in, low_in, double_in, Lowest, lowest_is}
use Rattle.retimer.specs.Row.{In, Interval, TickAfter, Upward, Fresh, TickBefore, UpTo, Spread, Gaps, Highest}

-- ---- Intervals

pub power_is : (a : ℕ) → a ≤ width → (1 * 2 ^ a) % 2 ^ 64 ≡ 2 ^ a
power_is a h = shl_exact 1 a 64 (omega arith) (omega arith) ∙ one-mul (2 ^ a)

pub interval_fits : (a b : ℕ) → a ≤ b → b ≤ width → (1 * 2 ^ a) % 2 ^ 64 ≤ (1 * 2 ^ b) % 2 ^ 64
interval_fits a b h k = rw (power_is a (omega arith), power_is b k) (pow_mono h)

pub interval_right : (a b : ℕ) → a ≤ b → b ≤ width → Interval a b ((1 * 2 ^ b) % 2 ^ 64 - (1 * 2 ^ a) % 2 ^ 64)
interval_right a b h k =
    rw (power_is a (omega arith), power_is b k)
    (record { small = omega (arith, pow_mono k, pow_pos a, pow_pos b); right = λ x. interval_in a b x h })

-- ---- A tick

pub tick_right : (row : ℕ) → row < 2 ^ width → TickAfter row (bit_or (row % 2 ^ top * 2) (bit_and row (2 ^ top)))
tick_right row h = record {
  small = or_lt width (row % 2 ^ top * 2) (bit_and row (2 ^ top)) (omega arith) (lt_of_le_of_lt (and_le_l row (2 ^ top)) h);
  right = λ x. (λ m. ⊎_elim (moved x) (stayed x) ((in_or (row % 2 ^ top * 2) (bit_and row (2 ^ top)) x).0 m), λ u. (in_or (row % 2 ^ top * 2) (bit_and row (2 ^ top)) x).1 (go x u.0 u.1 u.2 (ltb u.0 top) refl));
}
  where
    moved : (x : ℕ) → In x (row % 2 ^ top * 2) → (z : ℕ) × In z row × (x ≡ min (z + 1) top)
    moved x m =
        let u = (double_in (row % 2 ^ top) x).0 m in
        let v = (low_in row top u.0).0 u.2 in
        (u.0, v.1, omega (arith, u.1, v.0))

    stayed : (x : ℕ) → In x (bit_and row (2 ^ top)) → (z : ℕ) × In z row × (x ≡ min (z + 1) top)
    stayed x m =
        let u = (in_and row (2 ^ top) x).0 m in
        let e : x ≡ top = (power_in top x).0 u.1 in
        (x, u.0, omega arith)

    go : (x z : ℕ) → In z row → x ≡ min (z + 1) top → (b : Bool) → ltb z top ≡ b → In x (row % 2 ^ top * 2) ⊎ In x (bit_and row (2 ^ top))
    go x z m e true l = let k = ltb-true z top l in inl ((double_in (row % 2 ^ top) x).1 (z, omega arith, (low_in row top z).1 (k, m)))
    go x z m e false l =
        let k = ltb-false z top l in
        let j = in_below width row z h m in
        let a : x ≡ z = omega arith in
        inr ((in_and row (2 ^ top) x).1 (ap (bit row) a ∙ m, (power_in top x).1 (omega arith)))

-- ---- From the lowest on

lowest_of : (row : ℕ) → row < 2 ^ width → (row ≡ 0 → ⊥) → Lowest row (count_trailing_zeros 64 row)
lowest_of row h p = lowest_is 64 row (omega arith) (omega arith)

pub lowest_inside : (row : ℕ) → row < 2 ^ width → (row ≡ 0 → ⊥) → count_trailing_zeros 64 row ≤ width
lowest_inside row h p = let l = in_below width row (count_trailing_zeros 64 row) h (lowest_of row h p).0 in omega arith

pub upward_some : (row v : ℕ) → row < 2 ^ width → (row ≡ 0 → ⊥) → Interval (count_trailing_zeros 64 row) width v → Upward row v
upward_some row v h p i =
    let l = lowest_of row h p in
    record {
      small = i.small;
      right = λ x. (λ m. let u = (i.right x).0 m in (count_trailing_zeros 64 row, l.0, u.0, omega (arith, u.1)), λ u. (i.right x).1 (omega (arith, l.1 u.0 u.1, u.2), omega (arith, u.3)));
    }

-- ---- Readings that are no tick after one of the row before

pub fresh_right : (row before : ℕ) → row < 2 ^ width → Fresh row before (bit_and row (bit_xor row (before * 2)))
fresh_right row before h = record {
  small = lt_of_le_of_lt (and_le_l row (bit_xor row (before * 2))) h;
  right = λ x. let w = in_without row (before * 2) x in let d = double_in before x in
      (λ m. let u = w.0 m in (u.0, λ z k e. u.1 (d.1 (z, omega arith, k))), λ m. w.1 (m.0, λ k. let u = d.0 k in m.1 u.0 u.2 (omega (arith, u.1))));
}

-- ---- A tick before

pub before_right : (r : ℕ) → TickBefore r (bit_or ((r / 2 ^ 1) % 2 ^ top) (bit_and r (2 ^ top)))
before_right r = record { bits = λ x h. bit_of_or ((r / 2 ^ 1) % 2 ^ top) (bit_and r (2 ^ top)) x ∙ go x h (eqb x top) refl }
  where
    go : (x : ℕ) → x ≤ top → (b : Bool) → eqb x top ≡ b → (bit ((r / 2 ^ 1) % 2 ^ top) x || bit (bit_and r (2 ^ top)) x) ≡ bit r (min (x + 1) top)
    go x h true e =
        let d : x ≡ top = eqb-true x top e in
        let m : min (x + 1) top ≡ x = omega arith in
        rw (bit_high (r / 2 ^ 1) top x (omega arith), bit_of_and r (2 ^ top) x, bit_power top x, e, and-true (bit r x), m) refl
    go x h false e =
        let d = eqb-false x top e in
        let m : min (x + 1) top ≡ 1 + x = omega arith in
        rw (bit_low (r / 2 ^ 1) top x (omega arith), bit_shifted r 1 x, bit_of_and r (2 ^ top) x, bit_power top x, e, and-false (bit r x), or-false (bit r (1 + x)), m) refl

-- ---- Reading 0 alone

pub spread_all : (r : ℕ) → r % 2 ≡ 1 → Spread r (2 ^ 64 - 1)
spread_all r e = record { bits = λ x h. bit_ones 64 x (omega arith) ∙ sym (bit_lowest r ∙ eq-eqb (r % 2) 1 e) }

-- ---- The gaps of a row

-- Reading 0, and one more than each of the row.
begun_in : (n x : ℕ) → In x (n * 2 + 1) ↔ ((z : ℕ) → x ≡ z + 1 → In z n)
begun_in n zero = (λ m z e. absurd (omega arith), λ u. let w : (n * 2 + 1) % 2 ≡ 1 = omega arith in bit_lowest (n * 2 + 1) ∙ eq-eqb ((n * 2 + 1) % 2) 1 w)
begun_in n (suc x) = (λ m z e. let d : z ≡ x = omega arith in ap (bit n) d ∙ sym half ∙ m, λ u. half ∙ u x (omega arith))
  where
    half : bit (n * 2 + 1) (suc x) ≡ bit n x
    half = let w : (n * 2 + 1) / 2 ≡ n = omega arith in bit_half (n * 2 + 1) x ∙ ap (λ (i : ℕ). bit i x) w

module _ (row before : ℕ) where
  abbrev next : ℕ
  next = before % 2 ^ top * 2 + 1

  next_small : next < 2 ^ width
  next_small = omega arith

  pub gaps_right : Gaps row before (bit_and next (bit_xor next row))
  gaps_right = record {
    small = lt_of_le_of_lt (and_le_l next (bit_xor next row)) next_small;
    right = λ x. let w = in_without next row x in let b = begun_in (before % 2 ^ top) x in
        (λ m. let u = w.0 m in (omega (arith, in_below width next x next_small u.0), u.1, λ z e. ((low_in before top z).0 (b.0 u.0 z e)).1), λ m. w.1 (b.1 (λ z e. (low_in before top z).1 (omega (arith, m.0), m.2 z e)), m.1));
  }

-- ---- The highest reading

module _ (row : ℕ) where
  abbrev a : ℕ
  a = row % 2 ^ width

  size : (m : ℕ) × (count_leading_zeros 64 a + m ≡ 64) × (a < 2 ^ m) × (2 ^ m ≤ 2 * a + 1)
  size = leading_length 64 a (omega arith)

  at_highest : (x : ℕ) → size.0 ≡ x + 1 → In x a
  at_highest x e =
      let p : 2 ^ size.0 ≡ 2 ^ x * 2 = ap (λ (n : ℕ). 2 ^ n) (e ∙ omega arith) ∙ pow-suc 2 x in
      let q : a / 2 ^ x ≡ 1 = div-eq_of_lt-le (2 ^ x) (omega (arith, size.3)) (omega (arith, size.2)) in
      ap (λ (n : ℕ). eqb (n % 2) 1) q

  pub highest_right : (v : ℕ) → v ≡ 64 - count_leading_zeros 64 a → Highest row v
  highest_right v e =
      let s : v ≡ size.0 = omega (arith, size.1) in
      record {
        most = omega (arith, below v s);
        all = λ x h m. omega (arith, in_below size.0 a x size.2 ((low_in row width x).1 (omega arith, m)));
        last = λ x d. ((low_in row width x).0 (at_highest x (sym s ∙ d))).1;
      }
    where
      below : (v : ℕ) → v ≡ size.0 → v ≤ width
      below zero s = omega arith
      below (suc n) s = omega (arith, in_below width a n (mod-lt row (pow_pos width)) (at_highest n (sym s ∙ omega arith)))

-- ---- Up to the highest

pub up_to : (row n v : ℕ) → Highest row n → Interval 0 n v → UpTo row v
up_to row n v h i = record {
  only = λ x l m. let u = (i.right x).0 m in let z : n ≡ (n - 1) + 1 = omega (arith, u.1) in (n - 1, omega (arith, u.1), omega (arith, h.most), h.last (n - 1) z);
  all = λ x j l g m. (i.right x).1 (omega arith, omega (arith, h.all j g m));
}
