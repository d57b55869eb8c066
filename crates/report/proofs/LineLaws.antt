-- How long the parts of a line are.
-- Assumes nothing.
use mathlib.Core.Path.{◌≡◌, refl}
use mathlib.Core.List.{◌++◌}
use Prim.Native.Nat.{ℕ, zero, suc, ◌≤◌}
use native.Mathlib.Omega.{arith}
use lib.ListN.{length, length-append}
use Rattle.enforcement.specs.Reason.{Reason, i_1, i_2, i_3, i_4, i_5, i_6, i_7, i_8, s_1, s_2, s_3, s_4, s_5}
use Rattle.enforcement.specs.Loading.{Counts}
use Rattle.enforcement.specs.Loading as loading
use Rattle.enforcement.specs.History.{Outcome, scheduled, held, dropped, played, nothing, lit, dark, refused}
use Rattle.retimer.specs.declared.state.Answer.{Answer}
use Rattle.retimer.specs.Calls.{outcome_of}
use Rattle.report.specs.Texts.{ascii, figure}
use Rattle.report.specs.Lines.{reason_text, header_text, sheet_line, refused_line, checked_line, outcome_text, held_count_of, answer_text, tail_line}
use Rattle.report.proofs.Numerals.{numeral_few}

pub reason_three : (r : Reason) → length (reason_text r) ≡ 3
reason_three i_1 = refl
reason_three i_2 = refl
reason_three i_3 = refl
reason_three i_4 = refl
reason_three i_5 = refl
reason_three i_6 = refl
reason_three i_7 = refl
reason_three i_8 = refl
reason_three s_1 = refl
reason_three s_2 = refl
reason_three s_3 = refl
reason_three s_4 = refl
reason_three s_5 = refl

pub header_few : (k : Counts) → length (header_text k) ≤ 68
header_few k =
    omega (
      arith,
      length-append (figure "sheet " k.locations ++ figure " " k.clocks) (figure " " k.actions),
      length-append (figure "sheet " k.locations) (figure " " k.clocks),
      numeral_few k.locations,
      numeral_few k.clocks,
      numeral_few k.actions,
    )

-- What is played, with its date, and then with its number.
pub dated_few : (c d : ℕ) → length (figure "played " c ++ figure " " d) ≤ 48
dated_few c d = omega (arith, length-append (figure "played " c) (figure " " d), numeral_few c, numeral_few d)

numbered_few : (c d n : ℕ) → length (figure "played " c ++ figure " " d ++ figure " " n) ≤ 69
numbered_few c d n = omega (arith, length-append (figure "played " c ++ figure " " d) (figure " " n), dated_few c d, numeral_few n)

pub outcome_few : (h : ℕ) (o : Outcome) → length (outcome_text h o) ≤ 90
outcome_few h (scheduled n d) = omega (arith, length-append (figure "scheduled " n) (figure " " d), numeral_few n, numeral_few d)
outcome_few h held = omega (arith, numeral_few h)
outcome_few h dropped = omega arith
outcome_few h (played c d n t) =
    omega (arith, length-append (figure "played " c ++ figure " " d ++ figure " " n) (figure " " t), numbered_few c d n, numeral_few t)
outcome_few h nothing = omega arith
outcome_few h lit = omega arith
outcome_few h dark = omega arith
outcome_few h (refused r) = omega (arith, length-append (ascii "refused ") (reason_text r), reason_three r)

pub answer_few : (a : Answer) → length (answer_text a) ≤ 90
answer_few a = outcome_few (held_count_of a) (outcome_of a)

pub tail_few : (n : ℕ) → length (tail_line n) ≤ 26
tail_few zero = omega arith
tail_few (suc n) = omega (arith, length-append (figure "tail " (suc n)) (ascii "\n"), numeral_few (suc n))

refused_few : (r : Reason) → length (refused_line r) ≤ 128
refused_few r = omega (arith, length-append (ascii "sheet refused " ++ reason_text r) (ascii "\n"), length-append (ascii "sheet refused ") (reason_text r), reason_three r)

sheet_few : (k : Counts) → length (sheet_line k) ≤ 128
sheet_few k =
    omega (
      arith,
      length-append (header_text k ++ figure " " k.transitions ++ figure " " k.accepting) (ascii "\n"),
      length-append (header_text k ++ figure " " k.transitions) (figure " " k.accepting),
      length-append (header_text k) (figure " " k.transitions),
      header_few k,
      numeral_few k.transitions,
      numeral_few k.accepting,
    )

pub checked_few : (c : loading.Checked) → length (checked_line c) ≤ 128
checked_few (loading.accepted k) = sheet_few k
checked_few (loading.refused r) = refused_few r
