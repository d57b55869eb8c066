-- What is left of a log from a record on, as the loops over its records have it.
-- Assumes nothing.
use mathlib.Core.Path.{◌≡◌, sym, ap, ◌∙◌}
use mathlib.Core.List.{List, [], ◌∷◌, ◌++◌, append_assoc, append-nil}
use Prim.Native.Nat.{ℕ, suc, ◌+◌, ◌-◌, ◌*◌, ◌/◌, ◌%◌, ◌≤◌, ◌<◌}
use native.Mathlib.Numerals.{add-one}
use native.Mathlib.Omega.{arith}
use lib.ListN.{length, take, drop, length-append}
use lib.Seq.{length-take-le, take_all, take_at}
use Rattle.enforcement.specs.Limits.{max_date}
use Rattle.enforcement.specs.Automaton.{Bytes}
use Rattle.enforcement.specs.TimedWord.{Event, dates_of}
use Rattle.logs.specs.declared.format.Format.{Format}
use Rattle.logs.specs.declared.record.Record.{Record}
use Rattle.logs.specs.Log.{record_at, records_from, records_of, record_bytes, bytes_of, date_of, ticks_of, word_from, word_of, log_from, other}
use Rattle.logs.specs.Conversion.{i_10, i_11, Outcome, converted, refused, check_from, output}
use Rattle.logs.proofs.Checks.{late, falling, sound, Sound, is_sound}

-- The timed word of the records from place k on, after an action at d; what they answer; and their bytes in a format.
abbrev pub word_rest : Format → Bytes → ℕ → ℕ → List Event
word_rest f s k d = word_from f d (records_from s (length s / 5 - k) k)

abbrev pub check_rest : Format → Bytes → ℕ → ℕ → Outcome
check_rest f s k d = check_from k d (dates_of (word_rest f s k d))

abbrev pub bytes_rest : Format → Format → Bytes → ℕ → ℕ → Bytes
bytes_rest f g s k d = bytes_of (log_from g d (word_rest f s k d))

-- From the first place on it is all.
all_rest : (f : Format) (s : Bytes) → word_rest f s 0 0 ≡ word_of f (records_of s)
all_rest f s = let z : length s / 5 - 0 ≡ length s / 5 = omega arith in ap (λ (n : ℕ). word_from f 0 (records_from s n 0)) z

pub bytes_all : (f : Format) (s : Bytes) → bytes_rest f (other f) s 0 0 ≡ output f s
bytes_all f s = ap (λ (w : List Event). bytes_of (log_from (other f) 0 w)) (all_rest f s)

-- After the last place there is nothing.
module _ (f : Format) (s : Bytes) (k d : ℕ) (h : length s / 5 ≤ k) where
  no_rest : word_rest f s k d ≡ []
  unfolding records_from word_from
  no_rest = let z : length s / 5 - k ≡ 0 = omega arith in ap (λ (n : ℕ). word_from f d (records_from s n k)) z

  pub check_done : check_rest f s k d ≡ converted
  unfolding check_from
  check_done = ap (λ (w : List Event). check_from k d (dates_of w)) no_rest

  pub bytes_done : (g : Format) → bytes_rest f g s k d ≡ []
  unfolding log_from bytes_of
  bytes_done g = ap (λ (w : List Event). bytes_of (log_from g d w)) no_rest

-- The record r at place k, and its date t after an action at d.
pub record Next (f : Format) (s : Bytes) (k d : ℕ) (r : Record) (t : ℕ) : Type 0 where
  pub inside : k < length s / 5
  pub record_is : r ≡ record_at s k
  pub date_is : t ≡ date_of f d r.ticks

module _ {f : Format} {s : Bytes} {k d t : ℕ} {r : Record} (n : Next f s k d r t) where
  -- It comes next.
  next_rest : word_rest f s k d ≡ record { action = r.action; date = t } ∷ word_rest f s (k + 1) t
  unfolding records_from word_from
  next_rest =
      let z : length s / 5 - k ≡ suc (length s / 5 - (k + 1)) = omega (arith, n.inside) in
      ap (λ (m : ℕ). word_from f d (records_from s m k)) z
      ∙ ap (λ (x : Record). word_from f d (x ∷ records_from s (length s / 5 - (k + 1)) (suc k))) (sym n.record_is)
      ∙ ap (λ (e : ℕ). record { action = r.action; date = e } ∷ word_from f e (records_from s (length s / 5 - (k + 1)) (suc k))) (sym n.date_is)
      ∙ ap (λ (j : ℕ). record { action = r.action; date = t } ∷ word_from f t (records_from s (length s / 5 - (k + 1)) j)) (sym (add-one k))

  check_next : check_rest f s k d ≡ check_from k d (t ∷ dates_of (word_rest f s (k + 1) t))
  check_next = ap (λ (w : List Event). check_from k d (dates_of w)) next_rest

  pub check_late : max_date < t → check_rest f s k d ≡ refused (i_10 k)
  check_late l = check_next ∙ late k d t (dates_of (word_rest f s (k + 1) t)) l

  pub check_falling : t ≤ max_date → t < d → check_rest f s k d ≡ refused (i_11 k)
  check_falling e l = check_next ∙ falling k d t (dates_of (word_rest f s (k + 1) t)) e l

  one_more : check_from (suc k) t (dates_of (word_rest f s (k + 1) t)) ≡ check_rest f s (k + 1) t
  one_more = ap (λ (j : ℕ). check_from j t (dates_of (word_rest f s (k + 1) t))) (sym (add-one k))

  pub check_sound : t ≤ max_date → d ≤ t → check_rest f s k d ≡ check_rest f s (k + 1) t
  check_sound e l = check_next ∙ sound k d t (dates_of (word_rest f s (k + 1) t)) e l ∙ one_more

  -- Where the rest is converted, so is the record.
  pub next_sound : check_rest f s k d ≡ converted → Sound k d t (dates_of (word_rest f s (k + 1) t))
  next_sound e = is_sound k d t (dates_of (word_rest f s (k + 1) t)) (sym check_next ∙ e)

  pub rest_sound : check_rest f s k d ≡ converted → check_rest f s (k + 1) t ≡ converted
  rest_sound e = sym one_more ∙ (next_sound e).rest

  -- Its bytes come first.
  pub bytes_next : (g : Format) (m : ℕ) → m ≡ ticks_of g d t → bytes_rest f g s k d ≡ record_bytes (record { ticks = m; action = r.action }) ++ bytes_rest f g s (k + 1) t
  unfolding log_from bytes_of
  bytes_next g m e = ap (λ (w : List Event). bytes_of (log_from g d w)) next_rest ∙ ap (λ (i : ℕ). record_bytes (record { ticks = i; action = r.action }) ++ bytes_rest f g s (k + 1) t) (sym e)

-- An output of which the records before place k are written: with the bytes of the rest they are the converted log.
pub record Written (f : Format) (s out : Bytes) (k d : ℕ) : Type 0 where
  pub sized : length out ≡ length s
  pub early : d ≤ max_date
  pub sound : check_rest f s k d ≡ converted
  pub filled : take (5 * k) out ++ bytes_rest f (other f) s k d ≡ output f s

module _ {f : Format} {s out : Bytes} {k d t : ℕ} {r : Record} (w : Written f s out k d) (n : Next f s k d r t) where
  pub date_sound : Sound k d t (dates_of (word_rest f s (k + 1) t))
  date_sound = next_sound n w.sound

  pub written_one : (g : Format) (m : ℕ) (after : Bytes) → g ≡ other f → m ≡ ticks_of g d t → length after ≡ length out → after ≡ take (5 * k) out ++ record_bytes (record { ticks = m; action = r.action }) ++ drop (5 * k + 5) out → Written f s after (k + 1) t
  written_one g m after o e l put =
      let b = record_bytes (record { ticks = m; action = r.action }) in
      let rest = bytes_rest f (other f) s (k + 1) t in
      let size : length (take (5 * k) out ++ b) ≡ 5 * (k + 1) = omega (arith, length-append (take (5 * k) out) b, length-take-le (5 * k) out (omega (arith, w.sized, n.inside))) in
      let front : take (5 * (k + 1)) after ≡ take (5 * k) out ++ b =
      ap (take (5 * (k + 1))) put ∙ take_at (take (5 * k) out ++ b) (drop (5 * k + 5) out) (5 * (k + 1)) size in
      record {
        sized = l ∙ w.sized;
        early = date_sound.early;
        sound = rest_sound n w.sound;
        filled = ap (λ (x : Bytes). x ++ rest) front ∙ append_assoc (take (5 * k) out) b rest
            ∙ sym (ap (λ (x : Bytes). take (5 * k) out ++ x) (bytes_next n (other f) m (e ∙ ap (λ (u : Format). ticks_of u d t) o))) ∙ w.filled;
      }

pub written_all : {f : Format} {s out : Bytes} {k d : ℕ} → Written f s out k d → length s / 5 ≤ k → length s % 5 ≡ 0 → out ≡ output f s
written_all {f} {s} {out} {k} {d} w h m =
    let z : length out ≤ 5 * k = omega (arith, w.sized) in
    sym (take_all (5 * k) out z) ∙ sym (append-nil (take (5 * k) out)) ∙ sym (ap (λ (x : Bytes). take (5 * k) out ++ x) (bytes_done f s k d h (other f))) ∙ w.filled
