-- The records without fault are those before the first faulty one.
-- Assumes nothing.
use mathlib.Core.Path.{◌≡◌, refl, ◌∙◌}
use mathlib.Core.Logic.{inl, inr}
use Prim.Native.Nat.{zero, suc, ◌/◌}
use native.Mathlib.Omega.{arith}
use lib.ListN.{length}
use Rattle.enforcement.specs.Automaton.{Bytes}
use Rattle.logs.specs.declared.format.Format.{Format}
use Rattle.logs.specs.Log.{records_of}
use Rattle.logs.specs.Conversion.{i_9, i_10, i_11, Holds, Outcome, converted, refused, check_from, check, dates_in, faultless, sound_of, CheckRight, SoundRight}
use Rattle.logs.proofs.Answers.{by_records}
use Rattle.logs.proofs.Records.{length_records}
use Rattle.logs.proofs.Refusals.{check_right}
use Rattle.logs.proofs.Words.{length_dates}

module _ (f : Format) (s : Bytes) where
  -- What the records answer, with lengths that fit.
  fitting : CheckRight 0 0 (dates_in f s)
  fitting = check_right 0 0 (dates_in f s)

  as_many : length (dates_in f s) ≡ length s / 5
  as_many = length_dates f 0 (records_of s) ∙ length_records s (length s / 5) 0

  by_outcome : (o : Outcome) → check 0 0 (dates_in f s) ≡ o → SoundRight f s (faultless (length s / 5) o)
  unfolding Holds
  by_outcome converted e =
      let none = fitting.accepts.0 e in
      record { within = omega arith; none_late = λ k l x. none (i_10 k) x; none_falling = λ k l x. none (i_11 k) x; faulty = λ l. absurd (omega arith) }
  by_outcome (refused i_9) e = absurd (elim ((fitting.refuses i_9).0 e).holds [ inl x ↦ x refl | inr x ↦ x refl ])
  by_outcome (refused (i_10 c)) e =
      let g = (fitting.refuses (i_10 c)).0 e in
      record { within = omega (arith, as_many, g.holds.0); none_late = λ k l x. g.none_earlier (i_10 k) (omega arith) x; none_falling = λ k l x. g.none_earlier (i_11 k) (omega arith) x; faulty = λ l. inl g.holds }
  by_outcome (refused (i_11 zero)) e = absurd ((fitting.refuses (i_11 zero)).0 e).holds
  by_outcome (refused (i_11 (suc c))) e =
      let g = (fitting.refuses (i_11 (suc c))).0 e in
      record { within = omega (arith, as_many, g.holds.0); none_late = λ k l x. g.none_earlier (i_10 k) (omega arith) x; none_falling = λ k l x. g.none_earlier (i_11 k) (omega arith) x; faulty = λ l. inr g.holds }

  pub sound_right : SoundRight f s (sound_of f s)
  sound_right = by_outcome (check_from 0 0 (dates_in f s)) (by_records 0 0 (dates_in f s) refl refl)
