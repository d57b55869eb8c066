-- Time, runs and corrections (document 01, with the loading date by request F-5 of document 02), over exact readings and unlimited dates.
use Rattle.std.specs.Prelude.{◌≡◌, cond, ◌&&◌, List, [], ◌∷◌, ◌++◌, map, ◌⊎◌, ℕ, ◌+◌, ◌-◌, ◌≤◌, ◌<◌, T, eqb, length}
use Rattle.std.proofs.Math.Option.{Option, none, some}
use Rattle.enforcement.specs.Automaton.{Automaton, Bytes, Transition, transitions, enabled, bit, accepting, initial, actions}

-- A configuration: a location and the valuation (the readings) of the two clocks.
pub record Configuration : Type 0 where
  pub location : ℕ
  pub x : ℕ
  pub y : ℕ

-- The configuration at loading: every clock reads 0.
abbrev pub origin : Automaton → Configuration
origin a = record { location = initial a.bytes; x = 0; y = 0 }

-- Ticks pass.
abbrev pub elapse : ℕ → Configuration → Configuration
elapse n p = record { location = p.location; x = p.x + n; y = p.y + n }

-- A transition is taken: the readings of the clocks in its reset set are 0, the others are kept.
abbrev pub fire : Transition → Configuration → Configuration
fire t p = record { location = t.target; x = cond (bit t.resets 0) 0 p.x; y = cond (bit t.resets 1) 0 p.y }

-- The first transition of a list that is for the action and enabled, taken.
unfoldable pub fire_first : List Transition → ℕ → Configuration → Option Configuration
fire_first [] c p = none
fire_first (t ∷ ts) c p = cond (eqb t.action c && enabled t p.x p.y) (some (fire t p)) (fire_first ts c p)

-- Where an action leads from a configuration, if a transition is enabled.
unfoldable pub step : Bytes → ℕ → Configuration → Option Configuration
step s c p = fire_first (transitions s p.location) c p

-- An event: an action with its date (a command with its date). A list of events is a timed word.
pub record Event : Type 0 where
  pub action : ℕ
  pub date : ℕ

-- A transition was found, and P holds where it leads.
abbrev pub Found : Option Configuration → (Configuration → Type 0) → Type 0
Found none P = ⊥
Found (some q) P = P q

-- A run over any steps, from a configuration at a date: dates never fall, each action finds an enabled transition in its turn, and P holds of the last date and configuration.
abbrev pub Run : (ℕ → Configuration → Option Configuration) → (ℕ → Configuration → Type 0) → ℕ → Configuration → List Event → Type 0
Run st P d p [] = P d p
Run st P d p (e ∷ w) = (d ≤ e.date) × Found (st e.action (elapse (e.date - d) p)) (λ (q : Configuration). Run st P e.date q w)

-- The location is accepting.
abbrev pub Accepting : Automaton → ℕ → Configuration → Type 0
Accepting a d q = T (accepting a.bytes q.location)

-- The automaton accepts the timed word (the run satisfies the sheet).
unfoldable pub Accepts : Automaton → List Event → Type 0
Accepts a w = Run (step a.bytes) (Accepting a) a.loaded (origin a) w

-- Dates that never fall, none below d.
abbrev pub Monotone : ℕ → List ℕ → Type 0
Monotone d [] = Unit {0}
Monotone d (e ∷ ds) = (d ≤ e) × Monotone e ds

-- The last of some dates; d if there is none.
abbrev pub last_of : ℕ → List ℕ → ℕ
last_of d [] = d
last_of d (e ∷ ds) = last_of e ds

abbrev pub dates_of : List Event → List ℕ
dates_of w = map (λ (e : Event). e.date) w

-- The date of the last event; the loading date if there is none.
abbrev pub last_date : Automaton → List Event → ℕ
last_date a w = last_of a.loaded (dates_of w)

-- Actions with their dates.
unfoldable pub stamp : List ℕ → List ℕ → List Event
stamp [] ds = []
stamp (c ∷ cs) [] = []
stamp (c ∷ cs) (d ∷ ds) = record { action = c; date = d } ∷ stamp cs ds

-- A timing (a dating) of the actions cs at t, after the timed word w: a date for each, never falling, none below t and none below the last date of w.
pub record Timing (a : Automaton) (w : List Event) (t : ℕ) (cs ds : List ℕ) : Type 0 where
  pub each : length ds ≡ length cs
  pub from_t : Monotone t ds
  pub from_last : Monotone (last_date a w) ds

-- A correction: a timing with which w, continued by it, is accepted.
pub record Correction (a : Automaton) (w : List Event) (t : ℕ) (cs ds : List ℕ) : Type 0 where
  pub timing : Timing a w t cs ds
  pub accepts : Accepts a (w ++ stamp cs ds)

-- Compared from the first date on, ds does not come after es.
abbrev pub NotAfter : List ℕ → List ℕ → Type 0
NotAfter [] es = Unit {0}
NotAfter (d ∷ ds) [] = ⊥
NotAfter (d ∷ ds) (e ∷ es) = (d < e) ⊎ ((d ≡ e) × NotAfter ds es)

-- Of all corrections one with the least last date, and of those the first in order.
pub record Best (a : Automaton) (w : List Event) (t : ℕ) (cs ds : List ℕ) : Type 0 where
  pub correction : Correction a w t cs ds
  pub best : (es : List ℕ) → Correction a w t cs es → (last_of 0 ds < last_of 0 es) ⊎ ((last_of 0 ds ≡ last_of 0 es) × NotAfter ds es)

-- Every action is below n.
abbrev pub Below : ℕ → List Event → Type 0
Below n [] = Unit {0}
Below n (e ∷ w) = (e.action < n) × Below n w

-- Actions of the automaton.
abbrev pub Known : Automaton → List Event → Type 0
Known a w = Below (actions a.bytes) w

-- The actions cs are extensible (the list is open) at t: w, continued by some timing of them and then by zero or more further events, is accepted.
pub record Extensible (a : Automaton) (w : List Event) (t : ℕ) (cs : List ℕ) : Type 0 where
  pub dates : List ℕ
  pub timing : Timing a w t cs dates
  pub further : List Event
  pub known : Known a further
  pub accepts : Accepts a (w ++ (stamp cs dates ++ further))

-- At least one event if there is no action.
abbrev pub OneIfNone : List ℕ → List Event → Type 0
OneIfNone [] [] = ⊥
OneIfNone [] (e ∷ w) = Unit {0}
OneIfNone (c ∷ cs) w = Unit {0}

-- The lamp rule's condition for dark: w, continued by a timing of cs at t and then by further events from t on (at least one if cs is empty), is accepted.
pub record Continues (a : Automaton) (w : List Event) (t : ℕ) (cs : List ℕ) : Type 0 where
  pub dates : List ℕ
  pub timing : Timing a w t cs dates
  pub further : List Event
  pub known : Known a further
  pub from_t : Monotone t (dates_of further)
  pub some_more : OneIfNone cs further
  pub accepts : Accepts a (w ++ (stamp cs dates ++ further))
