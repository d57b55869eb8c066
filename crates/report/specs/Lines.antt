-- The desk program's lines (document 01, "Course sheets and the desk program", with numbers by request F-2 of document 02).
use Rattle.std.specs.Prelude.{Bool, true, false, List, [], ◌++◌, ℕ, zero, suc}
use Rattle.enforcement.specs.Reason.{Reason, i_1, i_2, i_3, i_4, i_5, i_6, i_7, i_8, s_1, s_2, s_3, s_4, s_5}
use Rattle.enforcement.specs.Loading.{Counts}
use Rattle.enforcement.specs.Loading as loading
use Rattle.enforcement.specs.History.{Outcome, scheduled, held, dropped, played, nothing, lit, dark, refused}
use Rattle.retimer.specs.declared.state.Answer.{Answer}
use Rattle.retimer.specs.declared.state.Answer.TheVariants.{Scheduled, Held, Dropped, Played, Nothing, Lit, Dark, Refused}
use Rattle.retimer.specs.Calls.{outcome_of}
use Rattle.report.specs.Texts.{ascii, numeral, figure}

abbrev pub reason_text : Reason → List ℕ
reason_text i_1 = ascii "I-1"
reason_text i_2 = ascii "I-2"
reason_text i_3 = ascii "I-3"
reason_text i_4 = ascii "I-4"
reason_text i_5 = ascii "I-5"
reason_text i_6 = ascii "I-6"
reason_text i_7 = ascii "I-7"
reason_text i_8 = ascii "I-8"
reason_text s_1 = ascii "S-1"
reason_text s_2 = ascii "S-2"
reason_text s_3 = ascii "S-3"
reason_text s_4 = ascii "S-4"
reason_text s_5 = ascii "S-5"

-- The first line: locations, clocks and actions; then transitions and accepting locations.
abbrev pub header_text : Counts → List ℕ
header_text k = figure "sheet " k.locations ++ figure " " k.clocks ++ figure " " k.actions

abbrev pub sheet_line : Counts → List ℕ
sheet_line k = header_text k ++ figure " " k.transitions ++ figure " " k.accepting ++ ascii "\n"

abbrev pub refused_line : Reason → List ℕ
refused_line r = ascii "sheet refused " ++ reason_text r ++ ascii "\n"

-- The line of what the check of a sheet answers.
abbrev pub checked_line : loading.Checked → List ℕ
checked_line (loading.accepted k) = sheet_line k
checked_line (loading.refused r) = refused_line r

-- What a call answers, where h actions are held after it. The words "lit" and "dark" are on no line: the desk program prints no line for a lamp call.
abbrev pub outcome_text : ℕ → Outcome → List ℕ
outcome_text h (scheduled n d) = figure "scheduled " n ++ figure " " d
outcome_text h held = figure "held " h
outcome_text h dropped = ascii "dropped"
outcome_text h (played c d n t) = figure "played " c ++ figure " " d ++ figure " " n ++ figure " " t
outcome_text h nothing = ascii "none"
outcome_text h lit = ascii "lit"
outcome_text h dark = ascii "dark"
outcome_text h (refused r) = ascii "refused " ++ reason_text r

-- The count that an answer of the code gives with "held".
abbrev pub held_count_of : Answer → ℕ
held_count_of (Scheduled n d) = 0
held_count_of (Held h) = h
held_count_of Dropped = 0
held_count_of (Played e) = 0
held_count_of Nothing = 0
held_count_of Lit = 0
held_count_of Dark = 0
held_count_of (Refused r) = 0

abbrev pub answer_text : Answer → List ℕ
answer_text a = outcome_text (held_count_of a) (outcome_of a)

abbrev pub lamp_text : Bool → List ℕ
lamp_text true = ascii " lamp 1\n"
lamp_text false = ascii " lamp 0\n"

-- The call's number, its answer, and the lamp after it.
abbrev pub call_line : ℕ → List ℕ → Bool → List ℕ
call_line n text is_lit = numeral n ++ ascii " " ++ text ++ lamp_text is_lit

-- The line for bytes left over; none where there are none.
abbrev pub tail_line : ℕ → List ℕ
tail_line zero = []
tail_line (suc n) = figure "tail " (suc n) ++ ascii "\n"
