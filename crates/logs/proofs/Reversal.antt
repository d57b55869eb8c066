-- A log that is converted is converted back, and gives the log again.
-- Assumes nothing.
use mathlib.Core.Path.{◌≡◌, refl, sym, ap, ◌∙◌}
use mathlib.Core.List.{List}
use Prim.Native.Nat.{ℕ, zero, suc, ◌/◌}
use native.Mathlib.Omega.{arith}
use lib.ListN.{length}
use Rattle.enforcement.specs.Limits.{max_date}
use Rattle.enforcement.specs.Automaton.{Bytes}
use Rattle.enforcement.specs.TimedWord.{Event, Monotone, dates_of}
use Rattle.enforcement.specs.Numbers.{AtMost}
use Rattle.logs.specs.declared.format.Format.{Format}
use Rattle.logs.specs.declared.format.Format.TheVariants.{Dates, Gaps}
use Rattle.logs.specs.Log.{records_of, bytes_of, word_of, log_of, other}
use Rattle.logs.specs.Conversion.{i_11, Holds, converted, refused, check, dates_in, answer, output, AllBytes, Chronological, Reversed, OutputRight}
use Rattle.logs.proofs.Answers.{Accepted, accepted}
use Rattle.logs.proofs.Refusals.{check_right}
use Rattle.logs.proofs.Records.{length_bytes, length_records, records_bytes, bytes_records}
use Rattle.logs.proofs.Words.{log_word, word_log, log_fits, length_word, length_log, accepted_rise, accepted_early, last_early, gaps_rise, rise_at}

other_other : (f : Format) → other (other f) ≡ f
other_other Dates = refl
other_other Gaps = refl

module _ (f : Format) (s : Bytes) (m : ℕ) (p : answer f s m ≡ converted) where
  known : Accepted (length s) m (dates_in f s)
  known = accepted (length s) m (dates_in f s) p

  rises : Monotone 0 (dates_in f s)
  rises = accepted_rise (dates_in f s) 0 0 known.sound

  early : AtMost max_date (dates_in f s)
  early = accepted_early (dates_in f s) 0 0 known.sound

  -- The records of the output are those written.
  output_records : records_of (output f s) ≡ log_of (other f) (word_of f (records_of s))
  output_records = records_bytes (log_of (other f) (word_of f (records_of s))) (log_fits (other f) 0 (word_of f (records_of s)) early)

  -- They stand for the same timed word.
  output_word : word_of (other f) (records_of (output f s)) ≡ word_of f (records_of s)
  output_word = ap (word_of (other f)) output_records ∙ word_log (other f) 0 (word_of f (records_of s)) rises

  output_length : length (output f s) ≡ length s
  output_length =
      let w = word_of f (records_of s) in
      omega (arith, length_bytes (log_of (other f) w), length_log (other f) 0 w, length_word f 0 (records_of s), length_records s (length s / 5) 0, known.whole)

  back_accepted : answer (other f) (output f s) m ≡ converted
  back_accepted = (λ j. check (output_length j) m (dates_of (output_word j))) ∙ p

  back_again : AllBytes s → output (other f) (output f s) ≡ s
  back_again b =
      ap (λ (g : Format). bytes_of (log_of g (word_of (other f) (records_of (output f s))))) (other_other f)
      ∙ ap (λ (w : List Event). bytes_of (log_of f w)) output_word ∙ ap bytes_of (log_word f 0 (records_of s)) ∙ bytes_records s b known.whole

  pub reversed : AllBytes s → Reversed f s m
  reversed b = record { same_length = output_length; accepted_back = back_accepted; again = back_again b }

-- A log in dates that is accepted never falls and ends by the last date.
pub dates_chronological : (s : Bytes) (m : ℕ) → answer Dates s m ≡ converted → Chronological s
dates_chronological s m p = record { whole = (known Dates s m p).whole; rises = rises Dates s m p; ends = last_early (dates_in Dates s) 0 (omega arith) (early Dates s m p) }

-- What comes out of gaps is such a log.
pub gaps_chronological : (s : Bytes) (m : ℕ) → answer Gaps s m ≡ converted → Chronological (output Gaps s)
gaps_chronological s m p = dates_chronological (output Gaps s) m (back_accepted Gaps s m p)

-- I-11 never comes from gaps.
none_falls : (n m : ℕ) (ds : List ℕ) (k : ℕ) → Monotone 0 ds → Holds n m ds (i_11 k) → ⊥
unfolding Holds
none_falls n m ds zero h x = x
none_falls n m ds (suc k) h x = omega (arith, rise_at ds 0 k h x.0, x.1)

pub gaps_never_fall : (s : Bytes) (m k : ℕ) → answer Gaps s m ≡ refused (i_11 k) → ⊥
gaps_never_fall s m k p = none_falls (length s) m (dates_in Gaps s) k (gaps_rise 0 (records_of s)) (((check_right (length s) m (dates_in Gaps s)).refuses (i_11 k)).0 p).holds

-- Two conversions, one after the other, by any function that promises this of its output: the second is accepted too, and writes what the first had read.
pub there_and_back : {f : Format} {s before after last again : Bytes} → AllBytes s → answer f s (length before) ≡ converted → OutputRight f s before after → length last ≡ length s → OutputRight (other f) after last again → (answer (other f) after (length last) ≡ converted) × (again ≡ s)
there_and_back {f} {s} {before} {after} {last} {again} b p c l d =
    let same = reversed f s (length before) p b in
    let wrote = c.written p in
    let back : answer (other f) after (length last) ≡ converted = (λ j. answer (other f) (wrote j) ((l ∙ sym (known f s (length before) p).sized) j)) ∙ same.accepted_back in
    (back, d.written back ∙ ap (output (other f)) wrote ∙ same.again)
