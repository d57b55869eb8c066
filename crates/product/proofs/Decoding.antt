-- What a load reads of the bytes of an automaton in parts.
-- Assumes nothing.
use mathlib.Core.Path.{◌≡◌, refl, ap, ap₂, sym, ◌∙◌}
use mathlib.Core.Bool.{Bool, true, false, cond}
use mathlib.Core.List.{List, [], ◌∷◌, ◌++◌, append_assoc}
use mathlib.Core.Logic.{inl, inr}
use Prim.Native.Nat.{ℕ, zero, suc, ◌+◌, ◌*◌, ◌/◌, ◌%◌, ◌^◌, ◌≤◌, ◌<◌}
use native.Mathlib.Omega.{arith}
use native.Mathlib.Nat.{pow-suc, zero-lt-suc}
use lib.Dec.{eqb}
use lib.ListN.{length, get_or, take, drop, length-append, drop_of_length-le, get_or-eq_default}
use lib.Seq.{get_or-append-add, drop-cons, take-length}
use Rattle.enforcement.specs.Automaton.{Bytes, Transition, byte, word, bit, accepting, offset, size, transition_at, transitions_from, transitions, transitions_over, all_transitions}
use Rattle.enforcement.specs.Loading.{Layout, end_before}
use Rattle.enforcement.proofs.Bits.{bit_none, bit_lowest, bit_half}
use Rattle.enforcement.proofs.Pairs.{transitions_known, transitions_none}
use Rattle.retimer.proofs.CostLaws.{le_or_lt}
use Rattle.product.specs.Encoding.{Location, Parts, accepting_set, transitions_in, pairs_from, transition_bytes, transitions_bytes, header_bytes, encode}

-- No location: nothing leads on from it.
abbrev pub nowhere : Location
nowhere = record { accepting = false; transitions = [] }

-- ---- The accepting set

lowest : (b : Bool) (n : ℕ) → eqb ((cond b 1 0 + 2 * n) % 2) 1 ≡ b
lowest true n = let z : (1 + 2 * n) % 2 ≡ 1 = omega arith in ap (λ (i : ℕ). eqb i 1) z
lowest false n = let z : (0 + 2 * n) % 2 ≡ 0 = omega arith in ap (λ (i : ℕ). eqb i 1) z

half : (b : Bool) (n : ℕ) → (cond b 1 0 + 2 * n) / 2 ≡ n
half true n = omega arith
half false n = omega arith

set_bit : (ls : List Location) (l : ℕ) → bit (accepting_set ls) l ≡ (get_or ls l nowhere).accepting
unfolding accepting_set
set_bit [] l = bit_none l
set_bit (x ∷ ls) zero = bit_lowest (cond x.accepting 1 0 + 2 * accepting_set ls) ∙ lowest x.accepting (accepting_set ls)
set_bit (x ∷ ls) (suc l) = bit_half (cond x.accepting 1 0 + 2 * accepting_set ls) l ∙ ap (λ (n : ℕ). bit n l) (half x.accepting (accepting_set ls)) ∙ set_bit ls l

one_bit : (b : Bool) → cond b 1 0 < 2
one_bit true = omega arith
one_bit false = omega arith

set_below : (ls : List Location) → accepting_set ls < 2 ^ length ls
unfolding accepting_set
set_below [] = zero-lt-suc zero
set_below (x ∷ ls) = omega (arith, set_below ls, one_bit x.accepting, pow-suc 2 (length ls))

-- ---- The pairs

-- A word behind other bytes.
word_behind : (p s : Bytes) (n i : ℕ) → i ≡ length p + n → word (p ++ s) i ≡ word s n
word_behind p s n i e =
    let a : i + 1 ≡ length p + (n + 1) = omega arith in
    ap₂ (λ (x y : ℕ). x + 256 * y) (ap (byte (p ++ s)) e ∙ get_or-append-add p s n 0) (ap (byte (p ++ s)) a ∙ get_or-append-add p s (n + 1) 0)

word_back : (n : ℕ) → n % 256 + 256 * (n / 256) ≡ n
word_back n = omega arith

-- How many transitions the locations before l have.
abbrev before : List Location → ℕ → ℕ
before ls l = length (transitions_in (take l ls))

abbrev count : List Location → ℕ → ℕ
count ls l = length (get_or ls l nowhere).transitions

before_next : (x : Location) (ls : List Location) (l : ℕ) → before (x ∷ ls) (suc l) ≡ length x.transitions + before ls l
unfolding transitions_in
before_next x ls l = length-append x.transitions (transitions_in (take l ls))

before_none : (ls : List Location) → before ls 0 ≡ 0
unfolding transitions_in
before_none ls = refl

before_more : (ls : List Location) (l : ℕ) → l < length ls → before ls (suc l) ≡ before ls l + count ls l
before_more [] l h = absurd (omega arith)
before_more (x ∷ ls) zero h = omega (arith, before_next x ls 0, before_none ls, before_none (x ∷ ls))
before_more (x ∷ ls) (suc l) h = omega (arith, before_next x ls (suc l), before_next x ls l, before_more ls l (omega arith))

pub pairs_length : (e : ℕ) (ls : List Location) → length (pairs_from e ls) ≡ 4 * length ls
unfolding pairs_from
pairs_length e [] = refl
pairs_length e (x ∷ ls) = omega (arith, pairs_length (e + 7 * length x.transitions) ls)

pairs_offset : (e : ℕ) (ls : List Location) (l : ℕ) (rest : Bytes) → l < length ls → word (pairs_from e ls ++ rest) (4 * l) ≡ e + 7 * before ls l
unfolding pairs_from
pairs_offset e [] l rest h = absurd (omega arith)
pairs_offset e (x ∷ ls) zero rest h = omega (arith, word_back e, before_none (x ∷ ls))
pairs_offset e (x ∷ ls) (suc l) rest h =
    let k : ℕ = 7 * length x.transitions in
    word_behind (e % 256 ∷ e / 256 ∷ k % 256 ∷ k / 256 ∷ []) (pairs_from (e + k) ls ++ rest) (4 * l) (4 * suc l) (omega arith)
    ∙ omega (arith, pairs_offset (e + k) ls l rest (omega arith), before_next x ls l)

pairs_size : (e : ℕ) (ls : List Location) (l : ℕ) (rest : Bytes) → l < length ls → word (pairs_from e ls ++ rest) (2 + 4 * l) ≡ 7 * count ls l
unfolding pairs_from
pairs_size e [] l rest h = absurd (omega arith)
pairs_size e (x ∷ ls) zero rest h = word_back (7 * length x.transitions)
pairs_size e (x ∷ ls) (suc l) rest h =
    let k : ℕ = 7 * length x.transitions in
    word_behind (e % 256 ∷ e / 256 ∷ k % 256 ∷ k / 256 ∷ []) (pairs_from (e + k) ls ++ rest) (2 + 4 * l) (2 + 4 * suc l) (omega arith) ∙ pairs_size (e + k) ls l rest (omega arith)

-- ---- The transitions

pub bytes_length : (ts : List Transition) → length (transitions_bytes ts) ≡ 7 * length ts
unfolding transitions_bytes
bytes_length [] = refl
bytes_length (t ∷ ts) = omega (arith, bytes_length ts)

-- The bytes of two lists.
pub bytes_append : (ts us : List Transition) → transitions_bytes (ts ++ us) ≡ transitions_bytes ts ++ transitions_bytes us
unfolding transitions_bytes
bytes_append [] us = refl
bytes_append (t ∷ ts) us = ap (λ (x : Bytes). transition_bytes t ++ x) (bytes_append ts us)

-- The transition whose bytes stand behind others is read there.
module _ (t : Transition) (p rest : Bytes) (k : ℕ) (e : k ≡ length p) where
  byte_at : (j i : ℕ) → i ≡ k + j → byte (p ++ (transition_bytes t ++ rest)) i ≡ byte (transition_bytes t ++ rest) j
  byte_at j i h = ap (byte (p ++ (transition_bytes t ++ rest))) (omega (arith, e)) ∙ get_or-append-add p (transition_bytes t ++ rest) j 0

  transition_read : transition_at (p ++ (transition_bytes t ++ rest)) k ≡ t
  transition_read = λ j. record {
    action = byte_at 0 k (omega arith) j;
    target = byte_at 1 (k + 1) refl j;
    resets = byte_at 2 (k + 2) refl j;
    low1 = byte_at 3 (k + 3) refl j;
    high1 = byte_at 4 (k + 4) refl j;
    low2 = byte_at 5 (k + 5) refl j;
    high2 = byte_at 6 (k + 6) refl j;
  }

transitions_read : (ts : List Transition) (p rest : Bytes) (k : ℕ) → k ≡ length p → transitions_from (p ++ (transitions_bytes ts ++ rest)) (length ts) k ≡ ts
unfolding transitions_bytes
transitions_read [] p rest k e = refl
transitions_read (t ∷ ts) p rest k e =
    let next : k + 7 ≡ length (p ++ transition_bytes t) = omega (arith, length-append p (transition_bytes t)) in
    let more : Bytes = transitions_bytes ts ++ rest in
    (λ j. transition_read t p more k e j ∷ transitions_from (p ++ (transition_bytes t ++ more)) (length ts) (k + 7))
    ∙ ap (λ (s : Bytes). t ∷ transitions_from s (length ts) (k + 7)) (sym (append_assoc p (transition_bytes t) more))
    ∙ ap (λ (us : List Transition). t ∷ us) (transitions_read ts (p ++ transition_bytes t) rest (k + 7) next)

-- Those of each location lie behind those of the locations before it.
location_read : (ls : List Location) (l : ℕ) (p : Bytes) (k : ℕ) → k ≡ length p + 7 * before ls l
    → transitions_from (p ++ transitions_bytes (transitions_in ls)) (count ls l) k ≡ (get_or ls l nowhere).transitions
unfolding transitions_in
location_read [] l p k e = refl
location_read (x ∷ ls) zero p k e =
    ap (λ (s : Bytes). transitions_from (p ++ s) (length x.transitions) k) (bytes_append x.transitions (transitions_in ls))
    ∙ transitions_read x.transitions p (transitions_bytes (transitions_in ls)) k (omega arith)
location_read (x ∷ ls) (suc l) p k e =
    let b : Bytes = transitions_bytes x.transitions in
    let rest : Bytes = transitions_bytes (transitions_in ls) in
    ap (λ (s : Bytes). transitions_from s (count ls l) k) (ap (λ (s : Bytes). p ++ s) (bytes_append x.transitions (transitions_in ls)) ∙ sym (append_assoc p b rest))
    ∙ location_read ls l (p ++ b) k (omega (arith, length-append p b, bytes_length x.transitions, before_next x ls l))

-- ---- All of it

pub record Decoded (a : Parts) : Type 0 where
  pub length_is : length (encode a) ≡ 6 + 4 * length a.locations + 7 * length (transitions_in a.locations)
  pub set_is : word (encode a) 4 ≡ accepting_set a.locations
  pub set_fits : accepting_set a.locations < 2 ^ length a.locations
  pub accepting_is : (l : ℕ) → accepting (encode a) l ≡ (get_or a.locations l nowhere).accepting
  pub layout_is : Layout (encode a)
  pub transitions_are : (l : ℕ) → transitions (encode a) l ≡ (get_or a.locations l nowhere).transitions
  pub all_are : all_transitions (encode a) ≡ transitions_in a.locations

module _ (a : Parts) where
  abbrev parts : List Location
  parts = a.locations

  abbrev base : ℕ
  base = 6 + 4 * length parts

  abbrev front : Bytes
  front = header_bytes a ++ pairs_from base parts

  abbrev behind : Bytes
  behind = transitions_bytes (transitions_in parts)

  front_length : length front ≡ base
  front_length = omega (arith, pairs_length base parts)

  all_length : length (encode a) ≡ base + 7 * length (transitions_in parts)
  all_length = omega (arith, length-append front behind, front_length, bytes_length (transitions_in parts))

  set_read : word (encode a) 4 ≡ accepting_set parts
  set_read = word_back (accepting_set parts)

  offset_read : (l : ℕ) → l < length parts → offset (encode a) l ≡ base + 7 * before parts l
  offset_read l h = word_behind (header_bytes a) (pairs_from base parts ++ behind) (4 * l) (6 + 4 * l) refl ∙ pairs_offset base parts l behind h

  size_read : (l : ℕ) → l < length parts → size (encode a) l ≡ 7 * count parts l
  size_read l h = word_behind (header_bytes a) (pairs_from base parts ++ behind) (2 + 4 * l) (8 + 4 * l) (omega arith) ∙ pairs_size base parts l behind h

  end_read : (l : ℕ) → l ≤ length parts → end_before (encode a) l ≡ base + 7 * before parts l
  end_read zero h = omega (arith, before_none parts)
  end_read (suc l) h = omega (arith, offset_read l (omega arith), size_read l (omega arith), before_more parts l (omega arith))

  layout_read : Layout (encode a)
  layout_read = record {
    adjacent = λ l h. offset_read l h ∙ sym (end_read l (omega arith));
    whole = λ l h. omega (arith, size_read l h);
    to_the_end = end_read (length parts) (omega arith) ∙ ap (λ (ls : List Location). base + 7 * length (transitions_in ls)) (take-length parts) ∙ sym all_length;
  }

  known_read : (l : ℕ) → l < length parts → transitions (encode a) l ≡ (get_or parts l nowhere).transitions
  known_read l h =
      let n : size (encode a) l / 7 ≡ count parts l = omega (arith, size_read l h) in
      transitions_known (encode a) l h ∙ ap₂ (transitions_from (encode a)) n (offset_read l h) ∙ location_read parts l front (base + 7 * before parts l) (omega (arith, front_length))

  none_read : (l : ℕ) → length parts ≤ l → transitions (encode a) l ≡ (get_or parts l nowhere).transitions
  none_read l h = transitions_none (encode a) l h ∙ sym (ap (λ (x : Location). x.transitions) (get_or-eq_default parts nowhere h))

  at_read : (l : ℕ) → transitions (encode a) l ≡ (get_or parts l nowhere).transitions
  at_read l = elim (le_or_lt (length parts) l) [ inl h ↦ none_read l h | inr h ↦ known_read l h ]

  over_read : (n l : ℕ) → l + n ≡ length parts → transitions_over (encode a) n l ≡ transitions_in (drop l parts)
  unfolding transitions_over transitions_in
  over_read zero l h = sym (ap transitions_in (drop_of_length-le parts {i = l} (omega arith)))
  over_read (suc n) l h = ap₂ ◌++◌ (at_read l) (over_read n (suc l) (omega arith)) ∙ sym (ap transitions_in (drop-cons parts l nowhere (omega arith)))

  pub decoded : Decoded a
  decoded = record {
    length_is = all_length;
    set_is = set_read;
    set_fits = set_below parts;
    accepting_is = λ l. ap (λ (n : ℕ). bit n l) set_read ∙ set_bit parts l;
    layout_is = layout_read;
    transitions_are = at_read;
    all_are = over_read (length parts) 0 (omega arith);
  }
