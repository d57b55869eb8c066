-- What holds of the numbers that a history gives (request F-2 of document 02).
use Rattle.std.specs.Prelude.{◌≡◌, List, [], ◌∷◌, ◌++◌, map, ℕ, suc, ◌≤◌, ◌<◌, length}
use Rattle.enforcement.specs.Limits.{max_numbered}
use Rattle.enforcement.specs.Automaton.{Automaton}
use Rattle.enforcement.specs.TimedWord.{Monotone}
use Rattle.enforcement.specs.History.{Request, Slot, History, fresh, schedule, Call, offer, collect, lamp, Outcome, scheduled, held, dropped, played, nothing, lit, dark, refused, HistoryOf}
use Rattle.enforcement.specs.Constraints.{input_of}

-- The requests of what is scheduled.
abbrev pub requests_in : List Slot → List Request
requests_in ss = map (λ (s : Slot). s.request) ss

-- The requests of what is scheduled, followed by those that are pending.
abbrev pub requests_over : List Slot → List Request → List Request
requests_over ss rs = requests_in ss ++ rs

-- Those of everything ever scheduled and of what is pending.
abbrev pub requests_of : History → List Request
requests_of h = requests_over h.scheduled h.pending

abbrev pub numbers_of : List Request → List ℕ
numbers_of rs = map (λ (r : Request). r.number) rs

abbrev pub offered_of : List Request → List ℕ
offered_of rs = map (λ (r : Request). r.offered) rs

-- Numbers that rise strictly, all above n.
abbrev pub Rising : ℕ → List ℕ → Type 0
Rising n [] = Unit {0}
Rising n (i ∷ is) = (n < i) × Rising i is

-- None is above n.
abbrev pub AtMost : ℕ → List ℕ → Type 0
AtMost n [] = Unit {0}
AtMost n (i ∷ is) = (i ≤ n) × AtMost n is

-- No scheduled action is dated before it was offered.
abbrev pub NoneEarly : List Slot → Type 0
NoneEarly [] = Unit {0}
NoneEarly (s ∷ ss) = (s.request.offered ≤ s.date) × NoneEarly ss

-- Of what is scheduled, followed by what is pending, with so many offers numbered by a date: the numbers rise strictly from 1 or more and are at most the count; no scheduled action is dated before it was
-- offered; offered dates never fall along the numbers, from the start on, and none is after the date.
pub record Ordered (start date count : ℕ) (ss : List Slot) (rs : List Request) : Type 0 where
  pub rise : Rising 0 (numbers_of (requests_over ss rs))
  pub counted : AtMost count (numbers_of (requests_over ss rs))
  pub none_early : NoneEarly ss
  pub offered_rise : Monotone start (offered_of (requests_over ss rs))
  pub offered_past : AtMost date (offered_of (requests_over ss rs))

-- By the outcome of an offer of c at t, where n offers were numbered before it, and f is of the calls after it: it gets the next number where it was scheduled, held or dropped, and is kept with it unless it was
-- dropped; a refused one gets none, and no offer has one of the other outcomes.
abbrev pub kept_if : Outcome → ℕ → ℕ → ℕ → (ℕ → List Request) → List Request
kept_if (scheduled m d) n c t f = record { action = c; number = suc n; offered = t } ∷ f (suc n)
kept_if held n c t f = record { action = c; number = suc n; offered = t } ∷ f (suc n)
kept_if dropped n c t f = f (suc n)
kept_if (played d e i o) n c t f = f n
kept_if nothing n c t f = f n
kept_if lit n c t f = f n
kept_if dark n c t f = f n
kept_if (refused r) n c t f = f n

-- The offers of a list of calls that were scheduled or held, each with its number, where n offers were numbered before.
abbrev pub kept_from : List Call → List Outcome → ℕ → List Request
kept_from [] os n = []
kept_from (k ∷ ks) [] n = []
kept_from (offer c t ∷ ks) (o ∷ os) n = kept_if o n c t (kept_from ks os)
kept_from (collect t ∷ ks) (o ∷ os) n = kept_from ks os n
kept_from (lamp ∷ ks) (o ∷ os) n = kept_from ks os n

-- Of the calls ks, which answered os and left the history h: everything ever scheduled, followed by what is pending, is ordered by its numbers, and so is what is left of it to play; the count is that of the
-- offers that were not refused, and is within the limit; these requests are the offers that were scheduled or held, each with its place among those scheduled, held or dropped as its number; later calls keep
-- them, and add to their end.
pub record Numbering (a : Automaton) (ks : List Call) (os : List Outcome) (h : History) : Type 0 where
  pub ordered : Ordered a.loaded h.date h.numbered h.scheduled h.pending
  pub left_ordered : Ordered a.loaded h.date h.numbered (schedule h) h.pending
  pub count_is : h.numbered ≡ length (input_of ks os)
  pub count_fits : h.numbered ≤ max_numbered
  pub requests_are : requests_of h ≡ kept_from ks os 0
  pub keep : (ks' : List Call) (os' : List Outcome) (h' : History) → HistoryOf a h ks' os' h' → (v : List Request) × (requests_of h' ≡ requests_of h ++ v)

-- For every list of calls.
unfoldable pub Numbers : Automaton → Type 0
Numbers a = (ks : List Call) (os : List Outcome) (h : History) → HistoryOf a (fresh a) ks os h → Numbering a ks os h
