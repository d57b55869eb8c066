-- The history of a list of calls (the book of document 01, with numbers by request F-2 and the loading date by F-5 of document 02): what each call answers and does, by the automaton and the calls alone.
use Rattle.std.specs.Prelude.{◌≡◌, List, [], ◌∷◌, ◌++◌, map, ℕ, suc, ◌-◌, ◌≤◌, ◌<◌, length, drop}
use Rattle.enforcement.specs.Limits.{max_count, max_scheduled, max_date, max_numbered}
use Rattle.enforcement.specs.Automaton.{Automaton, actions}
use Rattle.enforcement.specs.TimedWord.{Event, last_of, Correction, Best, Extensible, Continues}
use Rattle.enforcement.specs.Reason.{Reason, i_7, i_8, s_1, s_2, s_3, s_4, s_5}

-- An offer with its number (a command of the held list): the action, the number, and the date at which it was offered.
pub record Request : Type 0 where
  pub action : ℕ
  pub number : ℕ
  pub offered : ℕ

-- A scheduled request with its date.
pub record Slot : Type 0 where
  pub request : Request
  pub date : ℕ

abbrev pub actions_of : List Request → List ℕ
actions_of rs = map (λ (r : Request). r.action) rs

abbrev pub event_of : Slot → Event
event_of s = record { action = s.request.action; date = s.date }

-- The timed word of what was scheduled.
abbrev pub word_of : List Slot → List Event
word_of ss = map event_of ss

-- Requests at their dates.
unfoldable pub place : List Request → List ℕ → List Slot
place [] ds = []
place (r ∷ rs) [] = []
place (r ∷ rs) (d ∷ ds) = record { request = r; date = d } ∷ place rs ds

-- The history's state: its date, everything ever scheduled, what is pending, how many were played, and how many offers were numbered.
pub record History : Type 0 where
  pub date : ℕ
  pub scheduled : List Slot
  pub pending : List Request
  pub played : ℕ
  pub numbered : ℕ

abbrev pub fresh : Automaton → History
fresh a = record { date = a.loaded; scheduled = []; pending = []; played = 0; numbered = 0 }

-- What was scheduled without what was played.
abbrev pub schedule : History → List Slot
schedule h = drop h.played h.scheduled

pub data Call : Type 0 where
  offer : (c t : ℕ) → Call
  collect : (t : ℕ) → Call
  lamp : Call

pub data Outcome : Type 0 where
  scheduled : (count last : ℕ) → Outcome
  held : Outcome
  dropped : Outcome
  played : (c d number offered : ℕ) → Outcome
  nothing : Outcome
  lit : Outcome
  dark : Outcome
  refused : Reason → Outcome

-- The offer of c at t, with the next number.
abbrev pub numbered_next : History → ℕ → ℕ → Request
numbered_next h c t = record { action = c; number = suc h.numbered; offered = t }

-- The pending actions with c, offered at t, added at their end.
abbrev pub joined : History → ℕ → ℕ → List Request
joined h c t = h.pending ++ (numbered_next h c t ∷ [])

-- An offer that passes the first checks.
pub record Passes (a : Automaton) (h : History) (c t : ℕ) : Type 0 where
  pub known : c < actions a.bytes
  pub early : t ≤ max_date
  pub current : h.date ≤ t
  pub countable : h.numbered < max_numbered

-- ds corrects the pending actions with c, offered at t.
abbrev pub Corrects : Automaton → History → ℕ → ℕ → List ℕ → Type 0
Corrects a h c t ds = Correction a (word_of h.scheduled) t (actions_of (joined h c t)) ds

-- ds is the correction that the offer takes.
abbrev pub Chosen : Automaton → History → ℕ → ℕ → List ℕ → Type 0
Chosen a h c t ds = Best a (word_of h.scheduled) t (actions_of (joined h c t)) ds

-- There is no correction at t.
abbrev pub Uncorrectable : Automaton → History → ℕ → ℕ → Type 0
Uncorrectable a h c t = (ds : List ℕ) → Corrects a h c t ds → ⊥

-- The list is open at t.
abbrev pub IsOpen : Automaton → History → ℕ → ℕ → Type 0
IsOpen a h c t = Extensible a (word_of h.scheduled) t (actions_of (joined h c t))

abbrev pub free_slots : History → ℕ
free_slots h = max_scheduled - length (schedule h)

-- The history after each case. An offer that is scheduled, held or dropped is numbered.
abbrev pub after_schedule : History → ℕ → ℕ → List ℕ → History
after_schedule h c t ds = record { date = t; scheduled = h.scheduled ++ place (joined h c t) ds; pending = []; played = h.played; numbered = suc h.numbered }

abbrev pub after_hold : History → ℕ → ℕ → History
after_hold h c t = record { date = t; scheduled = h.scheduled; pending = joined h c t; played = h.played; numbered = suc h.numbered }

abbrev pub after_drop : History → ℕ → History
after_drop h t = record { date = t; scheduled = h.scheduled; pending = h.pending; played = h.played; numbered = suc h.numbered }

abbrev pub after_date : History → ℕ → History
after_date h t = record { date = t; scheduled = h.scheduled; pending = h.pending; played = h.played; numbered = h.numbered }

abbrev pub after_play : History → ℕ → History
after_play h t = record { date = t; scheduled = h.scheduled; pending = h.pending; played = suc h.played; numbered = h.numbered }

-- Document 01's lamp rule: when the lamp is dark.
abbrev pub Dark : Automaton → History → Type 0
Dark a h = Continues a (word_of h.scheduled) h.date (actions_of h.pending)

-- What one call answers, and the history after it.
pub data Answers (a : Automaton) (h : History) : Call → Outcome → History → Type 0 where
  unknown : {c t : ℕ} → actions a.bytes ≤ c → Answers a h (offer c t) (refused i_7) h
  late : {c t : ℕ} → c < actions a.bytes → max_date < t → Answers a h (offer c t) (refused i_8) h
  past : {c t : ℕ} → c < actions a.bytes → t ≤ max_date → t < h.date → Answers a h (offer c t) (refused s_1) h
  no_number : {c t : ℕ} → c < actions a.bytes → t ≤ max_date → h.date ≤ t → max_numbered ≤ h.numbered → Answers a h (offer c t) (refused s_5) h
  too_late : {c t : ℕ} {ds : List ℕ} → Passes a h c t → Corrects a h c t ds → ((es : List ℕ) → Corrects a h c t es → max_date < last_of 0 es)
      → Answers a h (offer c t) (refused s_2) h
  no_place : {c t : ℕ} {ds : List ℕ} → Passes a h c t → Chosen a h c t ds → last_of 0 ds ≤ max_date → free_slots h < length ds
      → Answers a h (offer c t) (refused s_3) h
  schedules : {c t : ℕ} {ds : List ℕ} → Passes a h c t → Chosen a h c t ds → last_of 0 ds ≤ max_date → length ds ≤ free_slots h
      → Answers a h (offer c t) (scheduled (length ds) (last_of 0 ds)) (after_schedule h c t ds)
  full : {c t : ℕ} → Passes a h c t → Uncorrectable a h c t → IsOpen a h c t → max_count ≤ length h.pending
      → Answers a h (offer c t) (refused s_4) h
  holds : {c t : ℕ} → Passes a h c t → Uncorrectable a h c t → IsOpen a h c t → length h.pending < max_count
      → Answers a h (offer c t) held (after_hold h c t)
  drops : {c t : ℕ} → Passes a h c t → Uncorrectable a h c t → (IsOpen a h c t → ⊥) → Answers a h (offer c t) dropped (after_drop h t)
  late_collect : {t : ℕ} → max_date < t → Answers a h (collect t) (refused i_8) h
  past_collect : {t : ℕ} → t ≤ max_date → t < h.date → Answers a h (collect t) (refused s_1) h
  plays : {t : ℕ} {e : Slot} {rest : List Slot} → t ≤ max_date → h.date ≤ t → schedule h ≡ e ∷ rest → e.date ≤ t
      → Answers a h (collect t) (played e.request.action e.date e.request.number e.request.offered) (after_play h t)
  too_early : {t : ℕ} {e : Slot} {rest : List Slot} → t ≤ max_date → h.date ≤ t → schedule h ≡ e ∷ rest → t < e.date
      → Answers a h (collect t) nothing (after_date h t)
  empty : {t : ℕ} → t ≤ max_date → h.date ≤ t → schedule h ≡ [] → Answers a h (collect t) nothing (after_date h t)
  is_dark : Dark a h → Answers a h lamp dark h
  is_lit_lamp : (Dark a h → ⊥) → Answers a h lamp lit h

-- The history of a list of calls, each on what the one before left: the outcomes, and the last state.
pub data HistoryOf (a : Automaton) : History → List Call → List Outcome → History → Type 0 where
  end : {h : History} → HistoryOf a h [] [] h
  call : {h h' h'' : History} {k : Call} {ks : List Call} {o : Outcome} {os : List Outcome} → Answers a h k o h' → HistoryOf a h' ks os h'' → HistoryOf a h (k ∷ ks) (o ∷ os) h''

-- Demand 3's lamp is dark exactly when some run of further offers from the history's date on, by the enforcement function with room, last date and numbers unlimited, gets one more action scheduled.
pub data Schedulable (a : Automaton) : History → Type 0 where
  schedules : {h : History} (c t : ℕ) (ds : List ℕ) → c < actions a.bytes → h.date ≤ t → Corrects a h c t ds → Schedulable a h
  holds : {h : History} (c t : ℕ) → c < actions a.bytes → h.date ≤ t → Uncorrectable a h c t → IsOpen a h c t → Schedulable a (after_hold h c t) → Schedulable a h
  drops : {h : History} (c t : ℕ) → c < actions a.bytes → h.date ≤ t → Uncorrectable a h c t → (IsOpen a h c t → ⊥) → Schedulable a (after_drop h t) → Schedulable a h
