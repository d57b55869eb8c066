-- The constraints on an enforcement mechanism (source document 003, definitions 5.2, 5.3 and 5.7), of the history.
use Rattle.std.specs.Prelude.{◌≡◌, List, [], ◌∷◌, ◌++◌, ◌⊎◌, ℕ, ◌≤◌, take}
use Rattle.enforcement.specs.Automaton.{Automaton}
use Rattle.enforcement.specs.TimedWord.{Event, Accepts, Monotone, dates_of}
use Rattle.enforcement.specs.History.{History, Slot, word_of, fresh, Call, offer, collect, lamp, Outcome, scheduled, held, dropped, played, nothing, lit, dark, refused, HistoryOf}

-- v is a delayed subsequence of w: some events of w are left out, and the dates of the others are kept or raised.
pub data Delayed : List Event → List Event → Type 0 where
  end : Delayed [] []
  omits : {v w : List Event} (e : Event) → Delayed v w → Delayed v (e ∷ w)
  delays : {v w : List Event} (c t d : ℕ) → t ≤ d → Delayed v w → Delayed (record { action = c; date = d } ∷ v) (record { action = c; date = t } ∷ w)

-- An offer counts as input unless it was refused.
abbrev pub unless_refused : Outcome → Event → List Event → List Event
unless_refused (scheduled n l) e w = e ∷ w
unless_refused held e w = e ∷ w
unless_refused dropped e w = e ∷ w
unless_refused (played c d n o) e w = e ∷ w
unless_refused nothing e w = e ∷ w
unless_refused lit e w = e ∷ w
unless_refused dark e w = e ∷ w
unless_refused (refused r) e w = w

-- The input word: the offers of a list of calls that were not refused.
abbrev pub input_of : List Call → List Outcome → List Event
input_of [] os = []
input_of (k ∷ ks) [] = []
input_of (offer c t ∷ ks) (o ∷ os) = unless_refused o (record { action = c; date = t }) (input_of ks os)
input_of (collect t ∷ ks) (o ∷ os) = input_of ks os
input_of (lamp ∷ ks) (o ∷ os) = input_of ks os

-- What collections played.
abbrev pub played_of : List Outcome → List Slot
played_of [] = []
played_of (scheduled n l ∷ os) = played_of os
played_of (held ∷ os) = played_of os
played_of (dropped ∷ os) = played_of os
played_of (played c d n t ∷ os) = record { request = record { action = c; number = n; offered = t }; date = d } ∷ played_of os
played_of (nothing ∷ os) = played_of os
played_of (lit ∷ os) = played_of os
played_of (dark ∷ os) = played_of os
played_of (refused r ∷ os) = played_of os

-- What a list of calls from a fresh box scheduled, in all, is sound, keeps to the input, and is only ever extended; its dates never fall, and collections play it from its first event on, in order, each with its number and its offered date.
pub record Enforces (a : Automaton) (ks : List Call) (os : List Outcome) (h : History) : Type 0 where
  pub soundness : (h.scheduled ≡ []) ⊎ Accepts a (word_of h.scheduled)
  pub transparency : Delayed (word_of h.scheduled) (input_of ks os)
  pub physical : (ks' : List Call) (os' : List Outcome) (h' : History) → HistoryOf a h ks' os' h' → (v : List Slot) × (h'.scheduled ≡ h.scheduled ++ v)
  pub rises : Monotone a.loaded (dates_of (word_of h.scheduled))
  pub in_order : played_of os ≡ take h.played h.scheduled

-- Definition 5.7, for every list of calls.
unfoldable pub Enforcement : Automaton → Type 0
Enforcement a = (ks : List Call) (os : List Outcome) (h : History) → HistoryOf a (fresh a) ks os h → Enforces a ks os h
