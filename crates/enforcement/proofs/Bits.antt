-- The bits of a number: which are set beyond a place, how many below it, and those of unions, intersections, shifts, remainders and intervals.
-- Assumes nothing.
use mathlib.Core.Path.{◌≡◌, refl, ap, ap₂, sym, ◌∙◌}
use mathlib.Core.Bool.{Bool, true, false, cond, ◌||◌, ◌&&◌, not, false≢true}
use mathlib.Core.Logic.{◌⊎◌, inl, inr, ◌↔◌}
use Prim.Native.Nat.{ℕ, zero, suc, ◌+◌, ◌*◌, ◌-◌, ◌/◌, ◌%◌, ◌^◌, ◌≤◌, ◌<◌, min}
use native.Mathlib.Omega.{arith}
use native.Mathlib.Nat.{lt_of_lt_of_le, lt_of_not-le, not-le_of_lt, le_of_suc-le-suc, mod-one, div-eq_of_lt, div-eq_of_lt-le, div_self, mod-lt, mod-eq_of_lt, mul_assoc, one-mul, zero-div, pow-suc, zero-lt-suc}
use native.Mathlib.Numerals.{add-one, one-add}
use lib.Dec.{T, eqb, ltb}
use lib.Arith.{lt_of_le-ne}
use lib.Pow.{pow_mono, pow_pos, pow-lt, pow-add, mod-pow-add, mod-mod-pow, shl-shr, shr-shr, high, ones_split, high_ones, field, ones_lt}
use lib.Bits.{bit_or, bit_and, bit_xor, or_shr, or_mod, and_shr, and_mod, xor_shr, xor_mod, or_add_and, and_le_r, shifted_even, and_step, and_self}
use lib.Count.{ones, ones_cat, leading_top, under, count_trailing_zeros}
use borrow.Author.Tests.{eq-eqb, eqb-true, eqb-false, ltb-true, ltb-false}
use Rattle.enforcement.specs.Automaton.{bit}

-- A number is below the power of two of itself.
below_power : (n : ℕ) → n < 2 ^ n
below_power zero = zero-lt-suc zero
below_power (suc n) = let h = below_power n in let k = pow-suc 2 n in omega arith

-- The place of the highest bit.
highest : (n : ℕ) → 0 < n → (i : ℕ) × (2 ^ i ≤ n) × (n < 2 ^ suc i)
highest n h = let t = leading_top n n h (below_power n) in (t.0, t.2, t.3)

highest_set : (n i : ℕ) → 2 ^ i ≤ n → n < 2 ^ suc i → T (bit n i)
highest_set n i h k =
    let e : n / 2 ^ i ≡ 1 = div-eq_of_lt-le (2 ^ i) (omega arith) (let z = pow-suc 2 i in omega arith) in
    rw e tt

-- A number that k bits do not hold has a bit set from k on.
pub bit_beyond : (k n : ℕ) → 2 ^ k ≤ n → (i : ℕ) × (k ≤ i) × T (bit n i)
bit_beyond k n h = let t = highest n (lt_of_lt_of_le (pow_pos k) h) in (t.0, go t.0 t.2, highest_set n t.0 t.1 t.2)
  where
    go : (i : ℕ) → n < 2 ^ suc i → k ≤ i
    go i l = le_of_suc-le-suc (lt_of_not-le (λ (g : suc i ≤ k). not-le_of_lt (lt_of_lt_of_le l (pow_mono g)) h))

-- And a number with a bit set from k on is one that k bits do not hold.
pub bit_large : (k n i : ℕ) → k ≤ i → T (bit n i) → 2 ^ k ≤ n
bit_large k n i l t = let a : ¬ (n < 2 ^ k) = none in omega arith
  where
    none : n < 2 ^ k → ⊥
    none h = let e : n / 2 ^ i ≡ 0 = div-eq_of_lt (lt_of_lt_of_le h (pow_mono l)) in rw e at t

-- How many numbers below k pass a test.
abbrev pub count_below : (ℕ → Bool) → ℕ → ℕ
count_below f zero = 0
count_below f (suc k) = cond (f k) 1 0 + count_below f k

ones_digit : (d : ℕ) → d < 2 → ones d ≡ cond (eqb d 1) 1 0
unfolding ones
ones_digit zero h = refl
ones_digit (suc zero) h = refl
ones_digit (suc (suc d)) h = absurd (omega arith)

low_ones : (n k : ℕ) → ones (n % 2 ^ k) ≡ count_below (bit n) k
unfolding ones
low_ones n zero = ap ones (mod-one n)
low_ones n (suc k) =
    let d : ℕ = n / 2 ^ k % 2 in
    ap (λ (x : ℕ). ones (n % 2 ^ x)) (sym (one-add k)) ∙ ap ones (mod-pow-add n 1 k) ∙ ones_cat k d (n % 2 ^ k) (mod-lt n (pow_pos k)) ∙ ap₂ ◌+◌ (ones_digit d (mod-lt (n / 2 ^ k) (zero-lt-suc 1))) (low_ones n k)

-- The set bits of a number of k bits.
pub ones_count : (n k : ℕ) → n < 2 ^ k → ones n ≡ count_below (bit n) k
ones_count n k h = ap ones (sym (mod-eq_of_lt h)) ∙ low_ones n k

-- ---- Numbers as sets of bits

abbrev In : ℕ → ℕ → Type 0
In x n = bit n x ≡ true

-- ---- Unions and intersections

digits_or : (d e : ℕ) → d < 2 → e < 2 → eqb (bit_or d e) 1 ≡ (eqb d 1 || eqb e 1)
digits_or zero zero h g = refl
digits_or zero (suc zero) h g = refl
digits_or (suc zero) zero h g = refl
digits_or (suc zero) (suc zero) h g = refl
digits_or (suc (suc d)) e h g = absurd (omega arith)
digits_or zero (suc (suc e)) h g = absurd (omega arith)
digits_or (suc zero) (suc (suc e)) h g = absurd (omega arith)

digits_and : (d e : ℕ) → d < 2 → e < 2 → eqb (bit_and d e) 1 ≡ (eqb d 1 && eqb e 1)
digits_and zero zero h g = refl
digits_and zero (suc zero) h g = refl
digits_and (suc zero) zero h g = refl
digits_and (suc zero) (suc zero) h g = refl
digits_and (suc (suc d)) e h g = absurd (omega arith)
digits_and zero (suc (suc e)) h g = absurd (omega arith)
digits_and (suc zero) (suc (suc e)) h g = absurd (omega arith)

digit_small : (n : ℕ) → n % 2 < 2
digit_small n = mod-lt n (zero-lt-suc 1)

pub bit_of_or : (a b x : ℕ) → bit (bit_or a b) x ≡ (bit a x || bit b x)
bit_of_or a b x = ap (λ (n : ℕ). eqb n 1) (ap (λ (n : ℕ). n % 2) (or_shr a b x) ∙ or_mod (a / 2 ^ x) (b / 2 ^ x) 1) ∙ digits_or (a / 2 ^ x % 2) (b / 2 ^ x % 2) (digit_small (a / 2 ^ x)) (digit_small (b / 2 ^ x))

pub bit_of_and : (a b x : ℕ) → bit (bit_and a b) x ≡ (bit a x && bit b x)
bit_of_and a b x = ap (λ (n : ℕ). eqb n 1) (ap (λ (n : ℕ). n % 2) (and_shr a b x) ∙ and_mod (a / 2 ^ x) (b / 2 ^ x) 1) ∙ digits_and (a / 2 ^ x % 2) (b / 2 ^ x % 2) (digit_small (a / 2 ^ x)) (digit_small (b / 2 ^ x))

-- A union is no smaller.
pub or_grows : (a b : ℕ) → a ≤ bit_or a b
or_grows a b = omega (arith, or_add_and a b, and_le_r a b)

pub or_cases : (a b : Bool) → (a || b) ≡ true → (a ≡ true) ⊎ (b ≡ true)
or_cases true b e = inl refl
or_cases false b e = inr e

pub or_shown : (a b : Bool) → (a ≡ true) ⊎ (b ≡ true) → (a || b) ≡ true
or_shown true b e = refl
or_shown false b (inl e) = absurd (false≢true e)
or_shown false b (inr e) = e

pub and_cases : (a b : Bool) → (a && b) ≡ true → (a ≡ true) × (b ≡ true)
and_cases true b e = (refl, e)
and_cases false b e = absurd (false≢true e)

pub and_shown : (a b : Bool) → (a ≡ true) × (b ≡ true) → (a && b) ≡ true
and_shown true b e = e.1
and_shown false b e = e.0

pub in_or : (a b x : ℕ) → In x (bit_or a b) ↔ (In x a ⊎ In x b)
in_or a b x = (λ h. or_cases (bit a x) (bit b x) (sym (bit_of_or a b x) ∙ h), λ h. bit_of_or a b x ∙ or_shown (bit a x) (bit b x) h)

pub in_and : (a b x : ℕ) → In x (bit_and a b) ↔ (In x a × In x b)
in_and a b x = (λ h. and_cases (bit a x) (bit b x) (sym (bit_of_and a b x) ∙ h), λ h. bit_of_and a b x ∙ and_shown (bit a x) (bit b x) h)

-- The bits of a that b has not.
digits_without : (d e : ℕ) → d < 2 → e < 2 → eqb (bit_and d (bit_xor d e)) 1 ≡ (eqb d 1 && not (eqb e 1))
digits_without zero zero h g = refl
digits_without zero (suc zero) h g = refl
digits_without (suc zero) zero h g = refl
digits_without (suc zero) (suc zero) h g = refl
digits_without (suc (suc d)) e h g = absurd (omega arith)
digits_without zero (suc (suc e)) h g = absurd (omega arith)
digits_without (suc zero) (suc (suc e)) h g = absurd (omega arith)

bit_without : (a b x : ℕ) → bit (bit_and a (bit_xor a b)) x ≡ (bit a x && not (bit b x))
bit_without a b x =
    let m : ℕ = a / 2 ^ x in
    let n : ℕ = b / 2 ^ x in
    ap (λ (k : ℕ). eqb (k % 2) 1) (and_shr a (bit_xor a b) x ∙ ap (bit_and m) (xor_shr a b x))
    ∙ ap (λ (k : ℕ). eqb k 1) (and_mod m (bit_xor m n) 1 ∙ ap (bit_and (m % 2)) (xor_mod m n 1))
    ∙ digits_without (m % 2) (n % 2) (digit_small m) (digit_small n)

pub in_without : (a b x : ℕ) → In x (bit_and a (bit_xor a b)) ↔ (In x a × (In x b → ⊥))
in_without a b x = (
  λ h. let w = and_cases (bit a x) (not (bit b x)) (sym (bit_without a b x) ∙ h) in (w.0, λ k. false≢true (sym (ap not k) ∙ w.1)),
  λ h. bit_without a b x ∙ and_shown (bit a x) (not (bit b x)) (h.0, go (bit b x) h.1),
)
  where
    go : (c : Bool) → (c ≡ true → ⊥) → not c ≡ true
    go true k = absurd (k refl)
    go false k = refl

-- ---- One place

pub bit_none : (x : ℕ) → bit 0 x ≡ false
bit_none x = rw (zero-div (2 ^ x))

pub bit_above : (n k x : ℕ) → n < 2 ^ k → k ≤ x → bit n x ≡ false
bit_above n k x h g =
    let e : n / 2 ^ x ≡ 0 = div-eq_of_lt (lt_of_lt_of_le h (pow_mono g)) in
    rw e

-- No bit beyond the size of a number.
pub in_below : (k n x : ℕ) → n < 2 ^ k → In x n → x < k
in_below k n x h m = go (ltb x k) refl
  where
    go : (b : Bool) → ltb x k ≡ b → x < k
    go true e = ltb-true x k e
    go false e = absurd (false≢true (sym (bit_above n k x h (ltb-false x k e)) ∙ m))

pub none_in : (x : ℕ) → In x 0 → ⊥
none_in x h = false≢true (sym (bit_none x) ∙ h)

pub bit_lowest : (n : ℕ) → bit n 0 ≡ eqb (n % 2) 1
bit_lowest n = let z : n / 1 ≡ n = omega arith in ap (λ (i : ℕ). eqb (i % 2) 1) z

pub bit_half : (n x : ℕ) → bit n (suc x) ≡ bit (n / 2) x
bit_half n x = ap (λ (i : ℕ). eqb (i % 2) 1) (ap (λ (i : ℕ). n / 2 ^ i) (sym (one-add x)) ∙ sym (shr-shr n 1 x))

pub bit_double : (n x : ℕ) → bit (n * 2) (suc x) ≡ bit n x
bit_double n x = let z : n * 2 / 2 ≡ n = omega arith in bit_half (n * 2) x ∙ ap (λ (i : ℕ). bit i x) z

pub bit_double_lowest : (n : ℕ) → bit (n * 2) 0 ≡ false
bit_double_lowest n = let z : n * 2 % 2 ≡ 0 = omega arith in bit_lowest (n * 2) ∙ ap (λ (i : ℕ). eqb i 1) z

-- ---- Shifts, remainders and powers

-- A number shifted down by k has the bits from k on.
pub bit_shifted : (n k x : ℕ) → bit (n / 2 ^ k) x ≡ bit n (k + x)
bit_shifted n k x = rw (shr-shr n k x)

-- A remainder by a power of two has the bits below it.
pub bit_low : (n k x : ℕ) → x < k → bit (n % 2 ^ k) x ≡ bit n x
bit_low n k x h =
    let e : k ≡ suc (k - suc x) + x = omega arith in
    let f : n % 2 ^ k / 2 ^ x % 2 ≡ n / 2 ^ x % 2 ^ suc (k - suc x) % 2 = ap (λ (i : ℕ). n % 2 ^ i / 2 ^ x % 2) e ∙ ap (λ (i : ℕ). i % 2) (field n (suc (k - suc x)) x) in
    let g : n / 2 ^ x % 2 ^ suc (k - suc x) % 2 ≡ n / 2 ^ x % 2 = ap (λ (i : ℕ). n / 2 ^ x % 2 ^ i % 2) (sym (add-one (k - suc x))) ∙ mod-mod-pow (n / 2 ^ x) (k - suc x) 1 in
    ap (λ (i : ℕ). eqb i 1) (f ∙ g)

pub bit_high : (n k x : ℕ) → k ≤ x → bit (n % 2 ^ k) x ≡ false
bit_high n k x h = bit_above (n % 2 ^ k) k x (mod-lt n (pow_pos k)) h

power_below : (x d : ℕ) → 2 ^ (suc d + x) / 2 ^ x % 2 ≡ 0
power_below x d = ap (λ (n : ℕ). n / 2 ^ x % 2) (pow-add 2 (suc d) x) ∙ ap (λ (n : ℕ). n % 2) (shl-shr (2 ^ suc d) x) ∙ ap (λ (n : ℕ). n % 2) (sym (one-mul (2 ^ suc d))) ∙ shifted_even 1 d

pub bit_power : (k x : ℕ) → bit (2 ^ k) x ≡ eqb x k
bit_power k x = go (eqb x k) refl (ltb x k) refl
  where
    go : (b : Bool) → eqb x k ≡ b → (c : Bool) → ltb x k ≡ c → bit (2 ^ k) x ≡ b
    go true e c f = rw (eqb-true x k e, div_self (pow_pos k))
    go false e true f =
        let z : k ≡ suc (k - suc x) + x = omega (arith, ltb-true x k f) in
        ap (λ (n : ℕ). eqb n 1) (ap (λ (n : ℕ). 2 ^ n / 2 ^ x % 2) z ∙ power_below x (k - suc x))
    go false e false f =
        let z : 2 ^ k / 2 ^ x ≡ 0 = div-eq_of_lt (pow-lt (lt_of_le-ne (ltb-false x k f) (λ g. eqb-false x k e (sym g)))) in
        rw z

-- The bits below k.
pub low_in : (n k x : ℕ) → In x (n % 2 ^ k) ↔ ((x < k) × In x n)
low_in n k x = (λ m. go (ltb x k) refl m, λ m. bit_low n k x m.0 ∙ m.1)
  where
    go : (b : Bool) → ltb x k ≡ b → In x (n % 2 ^ k) → (x < k) × In x n
    go true e m = let h = ltb-true x k e in (h, sym (bit_low n k x h) ∙ m)
    go false e m = absurd (false≢true (sym (bit_high n k x (ltb-false x k e)) ∙ m))

-- One bit.
pub power_in : (a x : ℕ) → In x (2 ^ a) ↔ (x ≡ a)
power_in a x = (λ m. eqb-true x a (sym (bit_power a x) ∙ m), λ e. bit_power a x ∙ eq-eqb x a e)

-- ---- Intervals

-- The number with the k lowest bits has just these.
ones_odd : (k : ℕ) → (2 ^ suc k - 1) % 2 ≡ 1
ones_odd k =
    let e : 2 ^ suc k - 1 ≡ (2 ^ k - 1) * 2 ^ 1 + (2 ^ 1 - 1) = ap (λ (n : ℕ). 2 ^ n - 1) (sym (add-one k)) ∙ ones_split k 1 in
    omega arith

pub bit_ones : (k x : ℕ) → x < k → bit (2 ^ k - 1) x ≡ true
bit_ones k x h =
    let e : k ≡ suc (k - suc x) + x = omega arith in
    let f : (2 ^ k - 1) / 2 ^ x ≡ 2 ^ suc (k - suc x) - 1 = ap (λ (n : ℕ). (2 ^ n - 1) / 2 ^ x) e ∙ ap (λ (n : ℕ). n / 2 ^ x) (ones_split (suc (k - suc x)) x) ∙ high (2 ^ suc (k - suc x) - 1) x (ones_lt x) in
    ap (λ (n : ℕ). eqb n 1) (ap (λ (n : ℕ). n % 2) f ∙ ones_odd (k - suc x))

-- The difference of two powers of two has the bits from the lower exponent on, below the higher.
pub interval_inside : (a b x : ℕ) → a ≤ b → a ≤ x → x < b → bit (2 ^ b - 2 ^ a) x ≡ true
interval_inside a b x h g f =
    let j : ℕ = b - a in
    let e : b ≡ j + a = omega arith in
    let d : x ≡ a + (x - a) = omega arith in
    let w : 2 ^ b - 2 ^ a ≡ (2 ^ j - 1) * 2 ^ a = ap (λ (n : ℕ). 2 ^ n - 2 ^ a) e ∙ high_ones j a in
    ap (bit (2 ^ b - 2 ^ a)) d ∙ sym (bit_shifted (2 ^ b - 2 ^ a) a (x - a)) ∙ ap (λ (n : ℕ). bit n (x - a)) (ap (λ (n : ℕ). n / 2 ^ a) w ∙ shl-shr (2 ^ j - 1) a) ∙ bit_ones j (x - a) (omega arith)

pub interval_above : (a b x : ℕ) → b ≤ x → bit (2 ^ b - 2 ^ a) x ≡ false
interval_above a b x h = let p = pow_pos a in let q = pow_pos b in bit_above (2 ^ b - 2 ^ a) b x (omega arith) h

pub interval_below : (a b x : ℕ) → a ≤ b → x < a → bit (2 ^ b - 2 ^ a) x ≡ false
interval_below a b x h g =
    let j : ℕ = b - a in
    let e : b ≡ j + a = omega arith in
    let w : 2 ^ b - 2 ^ a ≡ (2 ^ j - 1) * 2 ^ a = ap (λ (n : ℕ). 2 ^ n - 2 ^ a) e ∙ high_ones j a in
    let i : ℕ = a - suc x in
    let k : a ≡ suc i + x = omega arith in
    let v : (2 ^ j - 1) * 2 ^ a / 2 ^ x ≡ (2 ^ j - 1) * 2 ^ suc i = ap (λ (n : ℕ). (2 ^ j - 1) * n / 2 ^ x) (ap (λ (n : ℕ). 2 ^ n) k ∙ pow-add 2 (suc i) x) ∙ ap (λ (n : ℕ). n / 2 ^ x) (sym (mul_assoc (2 ^ j - 1) (2 ^ suc i) (2 ^ x))) ∙ shl-shr ((2 ^ j - 1) * 2 ^ suc i) x in
    ap (λ (n : ℕ). eqb (n % 2) 1) (ap (λ (n : ℕ). n / 2 ^ x) w ∙ v) ∙ ap (λ (n : ℕ). eqb n 1) (shifted_even (2 ^ j - 1) i)

pub interval_in : (a b x : ℕ) → a ≤ b → In x (2 ^ b - 2 ^ a) ↔ ((a ≤ x) × (x < b))
interval_in a b x h = (λ m. go (ltb x a) refl (ltb x b) refl m, λ m. interval_inside a b x h m.0 m.1)
  where
    go : (c : Bool) → ltb x a ≡ c → (d : Bool) → ltb x b ≡ d → In x (2 ^ b - 2 ^ a) → (a ≤ x) × (x < b)
    go true e d f m = absurd (false≢true (sym (interval_below a b x h (ltb-true x a e)) ∙ m))
    go false e true f m = (ltb-false x a e, ltb-true x b f)
    go false e false f m = absurd (false≢true (sym (interval_above a b x (ltb-false x b f)) ∙ m))

-- ---- The lowest bit

-- Bits above the lowest place.
pub double_in : (n x : ℕ) → In x (n * 2) ↔ ((z : ℕ) × (x ≡ suc z) × In z n)
double_in n zero = (λ m. absurd (false≢true (sym (bit_double_lowest n) ∙ m)), λ u. absurd (omega (arith, u.1)))
double_in n (suc x) = (λ m. (x, refl, sym (bit_double n x) ∙ m), λ u. let e : x ≡ u.0 = omega (arith, u.1) in bit_double n x ∙ ap (bit n) e ∙ u.2)

abbrev pub Lowest : ℕ → ℕ → Type 0
Lowest n t = In t n × ((x : ℕ) → In x n → t ≤ x)

lowest_more : (k n d : ℕ) → n % 2 ≡ d → d < 2 → (d ≡ 0 → Lowest (n / 2) (count_trailing_zeros k (n / 2))) → Lowest n (under d (count_trailing_zeros k (n / 2)))
lowest_more k n zero e l r = (bit_half n (count_trailing_zeros k (n / 2)) ∙ (r refl).0, above)
  where
    above : (x : ℕ) → In x n → suc (count_trailing_zeros k (n / 2)) ≤ x
    above zero m = absurd (false≢true (sym (bit_lowest n ∙ ap (λ (i : ℕ). eqb i 1) e) ∙ m))
    above (suc x) m = omega (arith, (r refl).1 x (sym (bit_half n x) ∙ m))
lowest_more k n (suc zero) e l r = (bit_lowest n ∙ ap (λ (i : ℕ). eqb i 1) e, λ x m. omega arith)
lowest_more k n (suc (suc d)) e l r = absurd (omega arith)

pub lowest_is : (k n : ℕ) → n < 2 ^ k → 0 < n → Lowest n (count_trailing_zeros k n)
unfolding count_trailing_zeros
lowest_is zero n h p = absurd (omega arith)
lowest_is (suc k) n h p = lowest_more k n (n % 2) refl (digit_small n) (λ e. lowest_is k (n / 2) (omega (arith, pow-suc 2 k)) (omega arith))

-- A number that is not 0 has a bit.
pub some_in : (k n : ℕ) → n < 2 ^ k → (n ≡ 0 → ⊥) → (x : ℕ) × In x n
some_in k n h p = let r = lowest_is k n h (omega arith) in (count_trailing_zeros k n, r.0)

-- Without the lowest bit.
drop_odd : (n : ℕ) → n % 2 ≡ 1 → bit_and n (n - 1) ≡ n / 2 * 2
drop_odd n e =
    let a : (n - 1) / 2 ≡ n / 2 = omega arith in
    let b : (n - 1) % 2 ≡ 0 = omega arith in
    and_step n (n - 1) ∙ ap₂ (λ (x y : ℕ). x * 2 + y) (ap (bit_and (n / 2)) a ∙ and_self (n / 2)) (ap₂ min e b) ∙ omega arith

drop_even : (n : ℕ) → 0 < n → n % 2 ≡ 0 → bit_and n (n - 1) ≡ bit_and (n / 2) (n / 2 - 1) * 2
drop_even n p e =
    let a : (n - 1) / 2 ≡ n / 2 - 1 = omega arith in
    let b : (n - 1) % 2 ≡ 1 = omega arith in
    and_step n (n - 1) ∙ ap₂ (λ (x y : ℕ). x * 2 + y) (ap (bit_and (n / 2)) a) (ap₂ min e b) ∙ omega arith

abbrev pub Dropped : ℕ → ℕ → ℕ → Type 0
Dropped n t v = (x : ℕ) → In x v ↔ (In x n × (x ≡ t → ⊥))

dropped_more : (k n d : ℕ) → 0 < n → n % 2 ≡ d → d < 2 → (d ≡ 0 → Dropped (n / 2) (count_trailing_zeros k (n / 2)) (bit_and (n / 2) (n / 2 - 1))) → Dropped n (under d (count_trailing_zeros k (n / 2))) (bit_and n (n - 1))
dropped_more k n zero p e l r zero = rw (drop_even n p e) (λ m. absurd (omega (arith, ((double_in (bit_and (n / 2) (n / 2 - 1)) 0).0 m).1)), λ m. absurd (false≢true (sym (bit_lowest n ∙ ap (λ (i : ℕ). eqb i 1) e) ∙ m.0)))
dropped_more k n zero p e l r (suc x) =
    let q = r refl x in
    rw (drop_even n p e, bit_double (bit_and (n / 2) (n / 2 - 1)) x, bit_half n x)
    (λ m. let w = q.0 m in (w.0, λ z. w.1 (omega arith)), λ m. q.1 (m.0, λ z. m.1 (omega arith)))
dropped_more k n (suc zero) p e l r zero = rw (drop_odd n e) (λ m. absurd (omega (arith, ((double_in (n / 2) 0).0 m).1)), λ m. absurd (m.1 refl))
dropped_more k n (suc zero) p e l r (suc x) = rw (drop_odd n e, bit_double (n / 2) x, bit_half n x) (λ m. (m, λ z. omega arith), λ m. m.0)
dropped_more k n (suc (suc d)) p e l r x = absurd (omega arith)

pub dropped_is : (k n : ℕ) → n < 2 ^ k → 0 < n → Dropped n (count_trailing_zeros k n) (bit_and n (n - 1))
unfolding count_trailing_zeros
dropped_is zero n h p = absurd (omega arith)
dropped_is (suc k) n h p = dropped_more k n (n % 2) p refl (digit_small n) (λ e. dropped_is k (n / 2) (omega (arith, pow-suc 2 k)) (omega arith))
