-- Questions P1 to P10 of document 01 with their keys, as one table.
use Rattle.std.specs.Prelude.{◌≡◌, List, [], ◌∷◌, ◌++◌, replicate}
use Rattle.enforcement.specs.Automaton.{Bytes, automaton}
use Rattle.enforcement.specs.TimedWord.{Event, stamp}
use Rattle.enforcement.specs.Reason.{s_4}
use Rattle.enforcement.specs.History.{History, word_of, fresh, HistoryOf, Call, offer, collect, lamp, Outcome, scheduled, held, dropped, nothing, lit, dark, refused}
use Rattle.course.specs.Sheets.{sheet_a, sheet_b, sheet_c, sheet_d, sheet_e}

-- A question: a sheet, the calls before it (those of the question that it goes on from), its own calls, and its key: what each of them answers, and the events that they schedule.
pub record Question : Type 0 where
  pub sheet : Bytes
  pub before : List Call
  pub calls : List Call
  pub answers : List Outcome
  pub events : List Event

-- The key is what the history of the sheet, loaded at date 0, says.
pub record KeyRight (q : Question) : Type 0 where
  pub answers_before : List Outcome
  pub history_before : History
  pub recorded_before : HistoryOf (automaton q.sheet 0) (fresh (automaton q.sheet 0)) q.before answers_before history_before
  pub history : History
  pub recorded : HistoryOf (automaton q.sheet 0) history_before q.calls q.answers history
  pub events_are : word_of history.scheduled ≡ word_of history_before.scheduled ++ q.events

abbrev pub AllRight : List Question → Type 0
AllRight [] = Unit {0}
AllRight (q ∷ qs) = KeyRight q × AllRight qs

-- A question that starts fresh.
abbrev pub asked : Bytes → List Call → List Outcome → List Event → Question
asked s ks os es = record { sheet = s; before = []; calls = ks; answers = os; events = es }

-- A question that goes on from the end of another.
abbrev pub next : Question → List Call → List Outcome → List Event → Question
next q ks os es = record { sheet = q.sheet; before = q.before ++ q.calls; calls = ks; answers = os; events = es }

abbrev pub p1 : Question
p1 = asked sheet_a (offer 1 4 ∷ offer 1 5 ∷ []) (scheduled 1 4 ∷ scheduled 1 9 ∷ []) (stamp (1 ∷ 1 ∷ []) (4 ∷ 9 ∷ []))

abbrev pub p2 : Question
p2 = next p1 (offer 0 6 ∷ []) (scheduled 1 9 ∷ []) (stamp (0 ∷ []) (9 ∷ []))

abbrev pub p3 : Question
p3 = next p2 (offer 1 6 ∷ []) (scheduled 1 14 ∷ []) (stamp (1 ∷ []) (14 ∷ []))

abbrev pub p4 : Question
p4 = asked sheet_b (offer 1 0 ∷ lamp ∷ []) (dropped ∷ dark ∷ []) []

abbrev pub p5 : Question
p5 = asked sheet_b (offer 0 3 ∷ offer 1 5 ∷ lamp ∷ []) (held ∷ scheduled 2 15 ∷ lit ∷ []) (stamp (0 ∷ 1 ∷ []) (5 ∷ 15 ∷ []))

abbrev pub p6 : Question
p6 = next p5 (offer 0 5 ∷ []) (dropped ∷ []) []

abbrev pub p7 : Question
p7 = asked sheet_c (offer 0 5 ∷ collect 8 ∷ lamp ∷ offer 1 8 ∷ []) (held ∷ nothing ∷ dark ∷ scheduled 2 8 ∷ []) (stamp (0 ∷ 1 ∷ []) (8 ∷ 8 ∷ []))

abbrev pub p8 : Question
p8 = asked sheet_c (offer 0 5 ∷ collect 9 ∷ lamp ∷ offer 1 9 ∷ []) (held ∷ nothing ∷ lit ∷ dropped ∷ []) []

abbrev pub p9 : Question
p9 = asked sheet_d (offer 0 2 ∷ offer 1 3 ∷ []) (held ∷ scheduled 2 10 ∷ []) (stamp (0 ∷ 1 ∷ []) (3 ∷ 10 ∷ []))

abbrev pub p10 : Question
p10 = asked sheet_e (replicate 17 (offer 0 0) ++ (offer 1 0 ∷ [])) (replicate 16 held ++ (refused s_4 ∷ scheduled 17 0 ∷ [])) (stamp (replicate 16 0 ++ (1 ∷ [])) (replicate 17 0))

-- The table.
abbrev pub keys : List Question
keys = p1 ∷ p2 ∷ p3 ∷ p4 ∷ p5 ∷ p6 ∷ p7 ∷ p8 ∷ p9 ∷ p10 ∷ []
