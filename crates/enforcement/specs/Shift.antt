-- The same sheet loaded d ticks later (request F-5 of document 02): calls, answers and histories whose dates are all d ticks later, and what is needed for them to be alike.
use Rattle.std.specs.Prelude.{List, [], ◌∷◌, map, ℕ, ◌+◌, ◌≤◌, ◌<◌}
use Rattle.enforcement.specs.Limits.{max_date}
use Rattle.enforcement.specs.Automaton.{Automaton, actions}
use Rattle.enforcement.specs.TimedWord.{last_of}
use Rattle.enforcement.specs.History.{Request, Slot, History, Call, offer, collect, lamp, Outcome, scheduled, held, dropped, played, nothing, lit, dark, refused, Passes, Chosen, Answers, HistoryOf}
use Rattle.enforcement.specs.Monitor.{Monitor}

abbrev pub shift_automaton : ℕ → Automaton → Automaton
shift_automaton d a = record { bytes = a.bytes; loaded = a.loaded + d }

abbrev pub shift_call : ℕ → Call → Call
shift_call d (offer c t) = offer c (t + d)
shift_call d (collect t) = collect (t + d)
shift_call d lamp = lamp

-- Last dates, dates that are played and dates of offers are later; refusals are alike.
abbrev pub shift_outcome : ℕ → Outcome → Outcome
shift_outcome d (scheduled n l) = scheduled n (l + d)
shift_outcome d held = held
shift_outcome d dropped = dropped
shift_outcome d (played c e n t) = played c (e + d) n (t + d)
shift_outcome d nothing = nothing
shift_outcome d lit = lit
shift_outcome d dark = dark
shift_outcome d (refused r) = refused r

abbrev pub shift_request : ℕ → Request → Request
shift_request d r = record { action = r.action; number = r.number; offered = r.offered + d }

abbrev pub shift_slot : ℕ → Slot → Slot
shift_slot d e = record { request = shift_request d e.request; date = e.date + d }

abbrev pub shift_history : ℕ → History → History
shift_history d h = record { date = h.date + d; scheduled = map (shift_slot d) h.scheduled; pending = map (shift_request d) h.pending; played = h.played; numbered = h.numbered }

-- The monitor d ticks later: location and readings are the same.
abbrev pub shift_monitor : ℕ → Monitor → Monitor
shift_monitor d b = record { date = b.date + d; pending = map (shift_request d) b.pending; schedule = map (shift_slot d) b.schedule; configuration = b.configuration; last = b.last + d; numbered = b.numbered; lit = b.lit }

-- A date that is not above the last date is not above it d ticks later.
abbrev pub InTime : ℕ → ℕ → Type 0
InTime d t = t ≤ max_date → t + d ≤ max_date

-- What a call needs to be answered alike d ticks later: its own date, and the end of the correction that an offer would take, do not pass the last date by being later. An action that is not the sheet's is I-7 at any date.
abbrev pub Shiftable : ℕ → Automaton → History → Call → Type 0
Shiftable d a h (offer c t) = (c < actions a.bytes → InTime d t) × ((ds : List ℕ) → Passes a h c t → Chosen a h c t ds → InTime d (last_of 0 ds))
Shiftable d a h (collect t) = InTime d t
Shiftable d a h lamp = Unit {0}

-- The same of each of a list of calls, on the history that those before it left.
pub data AllShiftable (d : ℕ) (a : Automaton) : History → List Call → Type 0 where
  end : {h : History} → AllShiftable d a h []
  call : {h h' : History} {k : Call} {ks : List Call} {o : Outcome} → Shiftable d a h k → Answers a h k o h' → AllShiftable d a h' ks → AllShiftable d a h (k ∷ ks)

-- Of calls that answered os and left h': the sheet loaded d ticks later answers the same calls d ticks later as these were, d ticks later, and leaves the history d ticks later.
abbrev pub Alike : ℕ → Automaton → History → List Call → List Outcome → History → Type 0
Alike d a h ks os h' = HistoryOf (shift_automaton d a) (shift_history d h) (map (shift_call d) ks) (map (shift_outcome d) os) (shift_history d h')
