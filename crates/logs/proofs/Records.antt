-- Laws of the bytes of records.
-- Assumes nothing.
use mathlib.Core.Path.{◌≡◌, refl, sym, ap, ◌∙◌}
use mathlib.Core.List.{List, [], ◌∷◌, ◌++◌, append_assoc}
use Prim.Native.Nat.{ℕ, zero, suc, ◌+◌, ◌*◌, ◌/◌, ◌%◌, ◌^◌, ◌≤◌, ◌<◌}
use native.Mathlib.Nat.{div-div-eq-div-mul}
use native.Mathlib.Omega.{arith}
use lib.ListN.{length, take, drop, length-append}
use lib.Seq.{take_all, take-add, drop-drop, drop-cons, get_or-append-add}
use Rattle.enforcement.specs.Automaton.{Bytes, byte}
use Rattle.retimer.specs.Bytes.{double_word}
use Rattle.logs.specs.declared.record.Record.{Record}
use Rattle.logs.specs.Log.{record_at, records_from, records_of, record_bytes, bytes_of}
use Rattle.logs.specs.Conversion.{AllBytes}

-- ---- There and back

-- A number of four bytes is that of its bytes.
split : (m q : ℕ) → m / 256 ≡ q → m ≡ 256 * q + m % 256
split m q e = omega arith

small : (m : ℕ) → m < 256 → m % 256 ≡ m
small m h = omega arith

sum : (n x y z a b c d : ℕ) → n ≡ 256 * x + a → x ≡ 256 * y + b → y ≡ 256 * z + c → d ≡ z → a + 256 * b + 65536 * (c + 256 * d) ≡ n
sum n x y z a b c d p q r s = omega arith

number_read : (n : ℕ) → n < 2 ^ 32 → n % 256 + 256 * (n / 256 % 256) + 65536 * (n / 65536 % 256 + 256 * (n / 16777216 % 256)) ≡ n
number_read n h =
    let one : n ≡ 256 * (n / 256) + n % 256 = omega arith in
    let two : n / 256 ≡ 256 * (n / 65536) + n / 256 % 256 = split (n / 256) (n / 65536) (div-div-eq-div-mul n 256 256) in
    let three : n / 65536 ≡ 256 * (n / 16777216) + n / 65536 % 256 = split (n / 65536) (n / 16777216) (div-div-eq-div-mul n 65536 256) in
    let four : n / 16777216 % 256 ≡ n / 16777216 = small (n / 16777216) (omega arith) in
    sum n (n / 256) (n / 65536) (n / 16777216) (n % 256) (n / 256 % 256) (n / 65536 % 256) (n / 16777216 % 256) one two three four

-- The bytes of a number are those that it is of.
module _ (a b c d n : ℕ) (l : (a < 256) × ((b < 256) × ((c < 256) × (d < 256)))) (e : n ≡ a + 256 * b + 65536 * (c + 256 * d)) where
  digit_one : n % 256 ≡ a
  digit_one = omega arith

  digit_two : n / 256 % 256 ≡ b
  digit_two = let z : n / 256 ≡ b + 256 * (c + 256 * d) = omega arith in omega arith

  digit_three : n / 65536 % 256 ≡ c
  digit_three = let z : n / 65536 ≡ c + 256 * d = omega arith in omega arith

  digit_four : n / 16777216 % 256 ≡ d
  digit_four = let z : n / 16777216 ≡ d = omega arith in omega arith

-- The record whose bytes stand at a place is read there.
module _ (r : Record) (p rest : Bytes) (k : ℕ) (e : length p ≡ 5 * k) where
  byte_at : (j i : ℕ) → i ≡ 5 * k + j → byte (p ++ (record_bytes r ++ rest)) i ≡ byte (record_bytes r ++ rest) j
  byte_at j i h = ap (λ (n : ℕ). byte (p ++ (record_bytes r ++ rest)) n) (omega (arith, e)) ∙ get_or-append-add p (record_bytes r ++ rest) j 0

  record_read : r.ticks < 2 ^ 32 → record_at (p ++ (record_bytes r ++ rest)) k ≡ r
  record_read h =
      let t : double_word (p ++ (record_bytes r ++ rest)) (5 * k) ≡ r.ticks =
      (λ j. byte_at 0 (5 * k) (omega arith) j + 256 * byte_at 1 (5 * k + 1) refl j + 65536 * (byte_at 2 (5 * k + 2) refl j + 256 * byte_at 3 (5 * k + 2 + 1) (omega arith) j))
      ∙ number_read r.ticks h in
      λ j. record { ticks = t j; action = byte_at 4 (5 * k + 4) refl j }

-- Every record's ticks have four bytes.
pub data AllFit : List Record → Type 0 where
  none : AllFit []
  one : {r : Record} {rs : List Record} → r.ticks < 2 ^ 32 → AllFit rs → AllFit (r ∷ rs)

records_read : (rs : List Record) (p : Bytes) (k : ℕ) → AllFit rs → length p ≡ 5 * k → records_from (p ++ bytes_of rs) (length rs) k ≡ rs
unfolding records_from bytes_of
records_read [] p k f e = refl
records_read (r ∷ rs) p k (one h f) e =
    let next : length (p ++ record_bytes r) ≡ 5 * suc k = omega (arith, length-append p (record_bytes r)) in
    (λ j. record_read r p (bytes_of rs) k e h j ∷ records_from (p ++ (record_bytes r ++ bytes_of rs)) (length rs) (suc k))
    ∙ ap (λ (s : Bytes). r ∷ records_from s (length rs) (suc k)) (sym (append_assoc p (record_bytes r) (bytes_of rs)))
    ∙ ap (λ (l : List Record). r ∷ l) (records_read rs (p ++ record_bytes r) (suc k) f next)

pub length_bytes : (rs : List Record) → length (bytes_of rs) ≡ 5 * length rs
unfolding bytes_of
length_bytes [] = refl
length_bytes (r ∷ rs) = omega (arith, length-append (record_bytes r) (bytes_of rs), length_bytes rs)

pub length_records : (s : Bytes) (n k : ℕ) → length (records_from s n k) ≡ n
unfolding records_from
length_records s zero k = refl
length_records s (suc n) k = ap suc (length_records s n (suc k))

-- The records of the bytes of records.
pub records_bytes : (rs : List Record) → AllFit rs → records_of (bytes_of rs) ≡ rs
records_bytes rs f =
    let z : length (bytes_of rs) / 5 ≡ length rs = omega (arith, length_bytes rs) in
    ap (λ (n : ℕ). records_from (bytes_of rs) n 0) z ∙ records_read rs [] 0 f refl

-- The bytes of the records of bytes.
module _ (s : Bytes) (b : AllBytes s) where
  one_byte : (i j : ℕ) → j ≡ i + 1 → i < length s → drop i s ≡ byte s i ∷ drop j s
  one_byte i j e h = let z : suc i ≡ j = omega arith in drop-cons s i 0 h ∙ ap (λ (k : ℕ). byte s i ∷ drop k s) z

  -- Five bytes from a place on.
  five : (i : ℕ) → i + 5 ≤ length s → take 5 (drop i s) ≡ byte s i ∷ byte s (i + 1) ∷ byte s (i + 2) ∷ byte s (i + 3) ∷ byte s (i + 4) ∷ []
  five i h =
      ap (take 5) (
      one_byte i (i + 1) refl (omega arith)
      ∙ ap (λ (l : Bytes). byte s i ∷ l) (
      one_byte (i + 1) (i + 2) (omega arith) (omega arith)
      ∙ ap (λ (l : Bytes). byte s (i + 1) ∷ l) (
      one_byte (i + 2) (i + 3) (omega arith) (omega arith)
      ∙ ap (λ (l : Bytes). byte s (i + 2) ∷ l) (
      one_byte (i + 3) (i + 4) (omega arith) (omega arith)
      ∙ ap (λ (l : Bytes). byte s (i + 3) ∷ l) (one_byte (i + 4) (i + 5) (omega arith) (omega arith))))))

  one_record : (k : ℕ) → 5 * k + 5 ≤ length s → record_bytes (record_at s k) ≡ take 5 (drop (5 * k) s)
  one_record k h =
      let i = 5 * k in
      let same : i + 2 + 1 ≡ i + 3 = omega arith in
      let l : (byte s i < 256) × ((byte s (i + 1) < 256) × ((byte s (i + 2) < 256) × (byte s (i + 2 + 1) < 256))) = (b i, (b (i + 1), (b (i + 2), b (i + 2 + 1)))) in
      (λ j. digit_one (byte s i) (byte s (i + 1)) (byte s (i + 2)) (byte s (i + 2 + 1)) (double_word s i) l refl j
      ∷ digit_two (byte s i) (byte s (i + 1)) (byte s (i + 2)) (byte s (i + 2 + 1)) (double_word s i) l refl j
      ∷ digit_three (byte s i) (byte s (i + 1)) (byte s (i + 2)) (byte s (i + 2 + 1)) (double_word s i) l refl j
      ∷ (digit_four (byte s i) (byte s (i + 1)) (byte s (i + 2)) (byte s (i + 2 + 1)) (double_word s i) l refl ∙ ap (byte s) same) j
      ∷ byte s (i + 4) ∷ [])
      ∙ sym (five i h)

  some_records : (n k : ℕ) → 5 * (k + n) ≤ length s → bytes_of (records_from s n k) ≡ take (5 * n) (drop (5 * k) s)
  unfolding records_from bytes_of
  some_records zero k h = refl
  some_records (suc n) k h =
      let more : 5 * suc n ≡ 5 + 5 * n = omega arith in
      let next : 5 * suc k ≡ 5 * k + 5 = omega arith in
      ap (λ (l : Bytes). l ++ bytes_of (records_from s n (suc k))) (one_record k (omega arith))
      ∙ ap (λ (l : Bytes). take 5 (drop (5 * k) s) ++ l) (some_records n (suc k) (omega arith) ∙ ap (λ (i : ℕ). take (5 * n) (drop i s)) next ∙ sym (ap (take (5 * n)) (drop-drop 5 (5 * k) s)))
      ∙ sym (take-add 5 (5 * n) (drop (5 * k) s)) ∙ sym (ap (λ (i : ℕ). take i (drop (5 * k) s)) more)

  pub bytes_records : length s % 5 ≡ 0 → bytes_of (records_of s) ≡ s
  bytes_records h = some_records (length s / 5) 0 (omega arith) ∙ take_all (5 * (length s / 5)) s (omega arith)
