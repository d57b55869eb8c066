-- The digits that `io::decimal` puts are the numeral.
-- Assumes nothing.
use mathlib.Core.Path.{◌≡◌, refl, sym, ap, ◌∙◌, subst}
use mathlib.Core.Bool.{Bool, true, false, cond}
use mathlib.Core.List.{List, [], ◌∷◌, ◌++◌}
use Prim.Native.Nat.{ℕ, zero, suc, ◌+◌, ◌-◌, ◌*◌, ◌/◌, ◌%◌, ◌^◌, ◌≤◌, ◌<◌}
use native.Mathlib.Omega.{arith}
use native.Mathlib.Nat.{div-lt_iff_lt-mul, le-div_iff_mul-le, mod-lt, pow-suc, pow-le-pow_right}
use lib.Dec.{leb, ltb, lit<}
use lib.ListN.{length, length-append}
use borrow.Author.Tests.{lt-ltb, ltb-true, ltb-false, leb-true, leb-false}
use Rattle.io.specs.Digits.{last_digits, hex_digit_ascii, IsDigitCount}
use Rattle.report.specs.Texts.{digits_of, numeral}

chosen_few : (b : Bool) (l : List ℕ) (f : ℕ) → length l ≤ f → length (cond b [] l) ≤ f
chosen_few true l f h = omega arith
chosen_few false l f h = h

-- At most f digits.
pub digits_few : (f n : ℕ) → length (digits_of f n) ≤ f
unfolding digits_of
digits_few zero n = omega arith
digits_few (suc f) n =
    let h : length (cond (ltb n 10) [] (digits_of f (n / 10))) ≤ f = chosen_few (ltb n 10) (digits_of f (n / 10)) f (digits_few f (n / 10)) in
    omega (arith, length-append (cond (ltb n 10) [] (digits_of f (n / 10))) ((48 + n % 10) ∷ []))

pub numeral_few : (n : ℕ) → length (numeral n) ≤ 20
unfolding numeral
numeral_few n = digits_few 20 n

last_digit : (n : ℕ) → 48 + n % 10 ≡ hex_digit_ascii (n % 10)
last_digit n = sym (ap (λ (b : Bool). cond b (48 + n % 10) (87 + n % 10)) (lt-ltb (n % 10) 10 (mod-lt n (lit< tt))))

less_one : (k : ℕ) → 10 ^ (suc (suc k) - 1) ≡ 10 ^ k * 10
less_one k = ap (λ (j : ℕ). 10 ^ j) (omega arith) ∙ pow-suc 10 k

-- A number below 10 has one digit.
one_digit : (k n : ℕ) → n < 10 → IsDigitCount 10 1 n (suc k) → last_digits 10 k (n / 10) ≡ []
one_digit zero n h w = refl
one_digit (suc k) n h w = absurd (omega (arith, w.2 (omega arith), less_one k, pow-le-pow_right {n = 10} (lit< tt) {i = 0} {j = k} (omega arith)))

-- One digit less for a tenth.
tenth : (k n : ℕ) → 10 ≤ n → IsDigitCount 10 1 n (suc k) → IsDigitCount 10 1 (n / 10) k
tenth zero n h w = absurd (omega (arith, w.1))
tenth (suc k) n h w = (omega arith, (div-lt_iff_lt-mul {k = 10} {x = n} {y = 10 ^ suc k} (lit< tt)).1 (subst (λ (m : ℕ). n < m) (pow-suc 10 (suc k)) w.1), λ more. subst (λ (j : ℕ). 10 ^ j ≤ n / 10) (omega arith) ((le-div_iff_mul-le {k = 10} {x = 10 ^ k} {y = n} (lit< tt)).1 (subst (λ (m : ℕ). m ≤ n) (less_one k) (w.2 (omega arith)))))

front : (k n : ℕ) (l : List ℕ) (b : Bool) → ltb n 10 ≡ b → IsDigitCount 10 1 n (suc k) → (10 ≤ n → l ≡ last_digits 10 k (n / 10)) → cond b [] l ≡ last_digits 10 k (n / 10)
front k n l true e w h = sym (one_digit k n (ltb-true n 10 e) w)
front k n l false e w h = h (ltb-false n 10 e)

-- The fewest digits that hold a number are those of its numeral.
pub digits_are : (f k n : ℕ) → IsDigitCount 10 1 n k → k ≤ f → digits_of f n ≡ last_digits 10 k n
unfolding digits_of
digits_are f zero n w h = absurd (omega (arith, w.0))
digits_are zero (suc k) n w h = absurd (omega arith)
digits_are (suc f) (suc k) n w h =
    ap (λ (d : ℕ). cond (ltb n 10) [] (digits_of f (n / 10)) ++ (d ∷ [])) (last_digit n)
    ∙ ap (λ (l : List ℕ). l ++ (hex_digit_ascii (n % 10) ∷ []))
    (front k n (digits_of f (n / 10)) (ltb n 10) refl w (λ large. digits_are f k (n / 10) (tenth k n large w) (omega arith)))

pub numeral_is : (k n : ℕ) → IsDigitCount 10 1 n k → k ≤ 20 → numeral n ≡ last_digits 10 k n
unfolding numeral
numeral_is k n w h = digits_are 20 k n w h

-- A number of 64 bits has at most 20 digits.
pub twenty_digits : (k n : ℕ) → IsDigitCount 10 1 n k → n < 2 ^ 64 → k ≤ 20
twenty_digits k n w h = go (leb k 20) refl
  where
    go : (b : Bool) → leb k 20 ≡ b → k ≤ 20
    go true e = leb-true k 20 e
    go false e =
        let more : 20 < k = leb-false k 20 e in
        absurd (omega (arith, w.2 (omega arith), pow-le-pow_right {n = 10} (lit< tt) {i = 20} {j = k - 1} (omega arith)))
