-- The conversion of a log to the other format: why it refuses, what it answers, and what is promised of it (request F-3 of document 02).
use Rattle.std.specs.Prelude.{◌≡◌, Bool, true, false, ◌&&◌, List, [], ◌∷◌, ◌⊎◌, ◌↔◌, ℕ, zero, suc, ◌+◌, ◌*◌, ◌/◌, ◌%◌, ◌≤◌, ◌<◌, leb, eqb, length, get_or, Result, Ok, Err}
use Rattle.enforcement.specs.Limits.{max_date}
use Rattle.enforcement.specs.Automaton.{Bytes, byte}
use Rattle.enforcement.specs.TimedWord.{Monotone, last_of, dates_of}
use Rattle.logs.specs.declared.format.Format.{Format}
use Rattle.logs.specs.declared.format.Format.TheVariants.{Dates}
use Rattle.logs.specs.declared.convert.Refusal as code
use Rattle.logs.specs.declared.convert.Refusal.TheVariants.{Length, Late, Falling}
use Rattle.logs.specs.Log.{records_of, bytes_of, word_of, log_of, other}

-- ---- When a conversion refuses

-- A reason; those of a record have its place, from 0.
pub data Refusal : Type 0 where
  i_9 : Refusal
  i_10 i_11 : ℕ → Refusal

-- The condition of each reason, for a log of n bytes, an output of m, and the dates of the log's records.
unfoldable pub Holds : ℕ → ℕ → List ℕ → Refusal → Type 0
Holds n m ds i_9 = (n % 5 ≡ 0 → ⊥) ⊎ (m ≡ n → ⊥)
Holds n m ds (i_10 k) = (k < length ds) × (max_date < get_or ds k 0)
Holds n m ds (i_11 zero) = ⊥
Holds n m ds (i_11 (suc k)) = (suc k < length ds) × (get_or ds (suc k) 0 < get_or ds k 0)

-- The number after "I-".
abbrev pub number : Refusal → ℕ
number i_9 = 9
number (i_10 k) = 10
number (i_11 k) = 11

-- The order in which reasons are tested: the lengths, and then record by record.
abbrev pub rank : Refusal → ℕ
rank i_9 = 0
rank (i_10 k) = 1 + 2 * k
rank (i_11 k) = 2 + 2 * k

-- The reason's condition holds, and no earlier one does.
pub record Given (n m : ℕ) (ds : List ℕ) (r : Refusal) : Type 0 where
  pub holds : Holds n m ds r
  pub none_earlier : (q : Refusal) → rank q < rank r → Holds n m ds q → ⊥

-- ---- What it answers

pub data Outcome : Type 0 where
  converted : Outcome
  refused : Refusal → Outcome

abbrev pub unless : Bool → Refusal → Outcome → Outcome
unless true r o = o
unless false r o = refused r

-- Record by record, from place k on, after a record with date d.
unfoldable pub check_from : ℕ → ℕ → List ℕ → Outcome
check_from k d [] = converted
check_from k d (e ∷ ds) = unless (leb e max_date) (i_10 k) (unless (leb d e) (i_11 k) (check_from (suc k) e ds))

-- The lengths first.
unfoldable pub check : ℕ → ℕ → List ℕ → Outcome
check n m ds = unless (eqb (n % 5) 0 && eqb m n) i_9 (check_from 0 0 ds)

-- The dates of a log in a format.
abbrev pub dates_in : Format → Bytes → List ℕ
dates_in f s = dates_of (word_of f (records_of s))

-- The answer for a log in a format and an output of m bytes.
abbrev pub answer : Format → Bytes → ℕ → Outcome
answer f s m = check (length s) m (dates_in f s)

-- The log in the other format.
abbrev pub output : Format → Bytes → Bytes
output f s = bytes_of (log_of (other f) (word_of f (records_of s)))

-- How many of n records, from the first on, are without fault: the place of the first faulty one, if there is one. No record is refused with I-9.
abbrev pub faultless : ℕ → Outcome → ℕ
faultless n converted = n
faultless n (refused i_9) = n
faultless n (refused (i_10 k)) = k
faultless n (refused (i_11 k)) = k

-- Those of a log in a format.
abbrev pub sound_of : Format → Bytes → ℕ
sound_of f s = faultless (length s / 5) (check_from 0 0 (dates_in f s))

-- ---- What is promised of the answer

-- A reason is answered exactly when its condition holds and no earlier one does, and a log is converted exactly when none holds.
pub record CheckRight (n m : ℕ) (ds : List ℕ) : Type 0 where
  pub refuses : (r : Refusal) → (check n m ds ≡ refused r) ↔ Given n m ds r
  pub accepts : (check n m ds ≡ converted) ↔ ((r : Refusal) → Holds n m ds r → ⊥)

-- What is promised of the records without fault, c of a log in a format: none of them is late or falling, and the next one is, if there is one.
pub record SoundRight (f : Format) (s : Bytes) (c : ℕ) : Type 0 where
  pub within : c ≤ length s / 5
  pub none_late : (k : ℕ) → k < c → Holds 0 0 (dates_in f s) (i_10 k) → ⊥
  pub none_falling : (k : ℕ) → k < c → Holds 0 0 (dates_in f s) (i_11 k) → ⊥
  pub faulty : c < length s / 5 → Holds 0 0 (dates_in f s) (i_10 c) ⊎ Holds 0 0 (dates_in f s) (i_11 c)

-- Every number is a byte, as in any slice of bytes.
abbrev pub AllBytes : Bytes → Type 0
AllBytes s = (i : ℕ) → byte s i < 256

-- A log in dates that never falls and ends by the last date.
pub record Chronological (s : Bytes) : Type 0 where
  pub whole : length s % 5 ≡ 0
  pub rises : Monotone 0 (dates_in Dates s)
  pub ends : last_of 0 (dates_in Dates s) ≤ max_date

-- What is promised of a log in a format that is converted to an output of m bytes: the output is as long as the log, is accepted back, and gives the log again.
pub record Reversed (f : Format) (s : Bytes) (m : ℕ) : Type 0 where
  pub same_length : length (output f s) ≡ length s
  pub accepted_back : answer (other f) (output f s) m ≡ converted
  pub again : output (other f) (output f s) ≡ s

-- ---- The code

-- The outcome that an answer of the code stands for.
abbrev pub outcome_of : Result (Unit {0}) code.Refusal → Outcome
outcome_of (Ok done) = converted
outcome_of (Err Length) = refused i_9
outcome_of (Err (Late k)) = refused (i_10 k)
outcome_of (Err (Falling k)) = refused (i_11 k)

-- What is promised of the output: it is the converted log, or after a refusal what it was.
pub record OutputRight (f : Format) (s before after : Bytes) : Type 0 where
  pub written : answer f s (length before) ≡ converted → after ≡ output f s
  pub untouched : (q : Refusal) → answer f s (length before) ≡ refused q → after ≡ before

-- What a conversion promises.
pub record ConvertRight (f : Format) (s before : Bytes) (r : Result (Unit {0}) code.Refusal) (after : Bytes) : Type 0 where
  pub answered : outcome_of r ≡ answer f s (length before)
  pub output_right : OutputRight f s before after
