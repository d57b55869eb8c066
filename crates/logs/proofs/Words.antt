-- Laws of the timed word that a log stands for, and of the log of a timed word.
-- Assumes nothing.
use mathlib.Core.Path.{◌≡◌, refl, ap, ◌∙◌}
use mathlib.Core.List.{List, [], ◌∷◌}
use Prim.Native.Nat.{ℕ, zero, suc, ◌+◌, ◌^◌, ◌≤◌, ◌<◌}
use native.Mathlib.Omega.{arith}
use lib.ListN.{length, get_or, length-map}
use Rattle.enforcement.specs.Limits.{max_date}
use Rattle.enforcement.specs.TimedWord.{Event, Monotone, last_of, dates_of}
use Rattle.enforcement.specs.Numbers.{AtMost}
use Rattle.logs.specs.declared.format.Format.{Format}
use Rattle.logs.specs.declared.format.Format.TheVariants.{Dates, Gaps}
use Rattle.logs.specs.declared.record.Record.{Record}
use Rattle.logs.specs.Log.{date_of, ticks_of, word_from, log_from}
use Rattle.logs.specs.Conversion.{converted, check_from}
use Rattle.logs.proofs.Checks.{is_sound}
use Rattle.logs.proofs.Records.{AllFit, none, one}

-- The ticks of a date, and the date of ticks.
ticks_date : (f : Format) (d n : ℕ) → ticks_of f d (date_of f d n) ≡ n
ticks_date Dates d n = refl
ticks_date Gaps d n = omega arith

date_ticks : (f : Format) (d t : ℕ) → d ≤ t → date_of f d (ticks_of f d t) ≡ t
date_ticks Dates d t h = refl
date_ticks Gaps d t h = omega arith

ticks_few : (f : Format) (d t : ℕ) → ticks_of f d t ≤ t
ticks_few Dates d t = omega arith
ticks_few Gaps d t = omega arith

-- The log of its word is the log.
pub log_word : (f : Format) (d : ℕ) (rs : List Record) → log_from f d (word_from f d rs) ≡ rs
unfolding word_from log_from
log_word f d [] = refl
log_word f d (r ∷ rs) = λ j. record { ticks = ticks_date f d r.ticks j; action = r.action } ∷ log_word f (date_of f d r.ticks) rs j

-- The word of its log is the word, where the dates never fall.
pub word_log : (f : Format) (d : ℕ) (w : List Event) → Monotone d (dates_of w) → word_from f d (log_from f d w) ≡ w
unfolding word_from log_from
word_log f d [] h = refl
word_log f d (e ∷ w) h =
    (λ j. record { action = e.action; date = date_ticks f d e.date h.0 j } ∷ word_from f (date_ticks f d e.date h.0 j) (log_from f e.date w))
    ∙ ap (λ (v : List Event). e ∷ v) (word_log f e.date w h.1)

-- The ticks of dates within the limit have four bytes.
pub log_fits : (f : Format) (d : ℕ) (w : List Event) → AtMost max_date (dates_of w) → AllFit (log_from f d w)
unfolding log_from
log_fits f d [] h = none
log_fits f d (e ∷ w) h =
    let few : ticks_of f d e.date < 2 ^ 32 = omega (arith, ticks_few f d e.date, h.0) in
    one few (log_fits f e.date w h.1)

pub length_word : (f : Format) (d : ℕ) (rs : List Record) → length (word_from f d rs) ≡ length rs
unfolding word_from
length_word f d [] = refl
length_word f d (r ∷ rs) = ap suc (length_word f (date_of f d r.ticks) rs)

-- There are as many dates as records.
pub length_dates : (f : Format) (d : ℕ) (rs : List Record) → length (dates_of (word_from f d rs)) ≡ length rs
length_dates f d rs = length-map (word_from f d rs) (λ (e : Event). e.date) ∙ length_word f d rs

pub length_log : (f : Format) (d : ℕ) (w : List Event) → length (log_from f d w) ≡ length w
unfolding log_from
length_log f d [] = refl
length_log f d (e ∷ w) = ap suc (length_log f e.date w)

-- Dates that are accepted never fall, and none is after the last date.
pub accepted_rise : (ds : List ℕ) (k d : ℕ) → check_from k d ds ≡ converted → Monotone d ds
accepted_rise [] k d p = tt
accepted_rise (e ∷ ds) k d p = let s = is_sound k d e ds p in (s.rises, accepted_rise ds (suc k) e s.rest)

pub accepted_early : (ds : List ℕ) (k d : ℕ) → check_from k d ds ≡ converted → AtMost max_date ds
accepted_early [] k d p = tt
accepted_early (e ∷ ds) k d p = let s = is_sound k d e ds p in (s.early, accepted_early ds (suc k) e s.rest)

pub last_early : (ds : List ℕ) (d : ℕ) → d ≤ max_date → AtMost max_date ds → last_of d ds ≤ max_date
last_early [] d h a = h
last_early (e ∷ ds) d h a = last_early ds e a.0 a.1

-- The dates of gaps never fall.
pub gaps_rise : (d : ℕ) (rs : List Record) → Monotone d (dates_of (word_from Gaps d rs))
unfolding word_from
gaps_rise d [] = tt
gaps_rise d (r ∷ rs) = (omega arith, gaps_rise (d + r.ticks) rs)

-- Of dates that never fall none is below the one before it.
pub rise_at : (ds : List ℕ) (d k : ℕ) → Monotone d ds → suc k < length ds → get_or ds k 0 ≤ get_or ds (suc k) 0
rise_at [] d k h l = omega arith
rise_at (a ∷ []) d k h l = omega arith
rise_at (a ∷ b ∷ ds) d zero h l = h.1.0
rise_at (a ∷ b ∷ ds) d (suc k) h l = rise_at (b ∷ ds) a k h.1 (omega arith)
