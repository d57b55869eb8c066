-- The reading of a clock in document 01's words, with request F-5 of document 02: the ticks since the loading date or since the clock's last reset, whichever is later.
-- `TimedWord` has readings that are carried along; that both accept the same timed words is `clocks_right`.
use Rattle.std.specs.Prelude.{cond, ◌&&◌, List, [], ◌∷◌, ℕ, ◌-◌, ◌≤◌, T, eqb}
use Rattle.std.proofs.Math.Option.{Option, none, some}
use Rattle.enforcement.specs.Automaton.{Automaton, Bytes, Transition, transitions, enabled, bit, accepting, initial}
use Rattle.enforcement.specs.TimedWord.{Event}

-- A location and, for each clock, the date of its last reset, or the loading date.
pub record Since : Type 0 where
  pub location : ℕ
  pub first : ℕ
  pub second : ℕ

abbrev pub loading : Automaton → Since
loading a = record { location = initial a.bytes; first = a.loaded; second = a.loaded }

-- A transition is taken at t: there the clocks in its reset set are reset.
abbrev pub taken_at : ℕ → Transition → Since → Since
taken_at t u p = record { location = u.target; first = cond (bit u.resets 0) t p.first; second = cond (bit u.resets 1) t p.second }

-- The first transition of a list that is for the action and enabled by the readings at t, taken.
unfoldable pub take_first : List Transition → ℕ → ℕ → Since → Option Since
take_first [] c t p = none
take_first (u ∷ us) c t p = cond (eqb u.action c && enabled u (t - p.first) (t - p.second)) (some (taken_at t u p)) (take_first us c t p)

abbrev pub Taken : Option Since → (Since → Type 0) → Type 0
Taken none P = ⊥
Taken (some q) P = P q

-- From a date on: dates never fall, each action finds an enabled transition in its turn, and the last location is accepting.
abbrev pub Satisfies : Bytes → ℕ → Since → List Event → Type 0
Satisfies s d p [] = T (accepting s p.location)
Satisfies s d p (e ∷ w) = (d ≤ e.date) × Taken (take_first (transitions s p.location) e.action e.date p) (λ (q : Since). Satisfies s e.date q w)
