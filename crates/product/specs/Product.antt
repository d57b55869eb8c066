-- The product of two automata (request F-6 of document 02): two sheets, of one clock each, as one.
use Rattle.std.specs.Prelude.{◌≡◌, cond, ◌&&◌, List, [], ◌∷◌, ◌++◌, ◌↔◌, ℕ, zero, suc, ◌+◌, ◌*◌, ◌/◌, ◌%◌, ◌≤◌, ◌<◌, eqb, length}
use Rattle.std.specs.Int.Count.{ones}
use Rattle.enforcement.specs.Limits.{max_count, max_transitions, max_date}
use Rattle.enforcement.specs.Automaton.{Bytes, Transition, automaton, word, locations, clocks, actions, initial, accepting, transitions, all_transitions}
use Rattle.enforcement.specs.TimedWord.{Event, Run, step, origin, Accepts, Correction}
use Rattle.enforcement.specs.Loading.{WellFormed, Counts, check, accepted}
use Rattle.product.specs.Encoding.{Location, Parts, transitions_in, encode}

-- ---- Locations

-- The location (i, j): i of the first sheet and j of the second, which has n.
abbrev pub location_of : ℕ → ℕ → ℕ → ℕ
location_of n i j = i * n + j

-- Location l is (i, j) for these i and j.
abbrev pub first_of : ℕ → ℕ → ℕ
first_of n l = l / n

abbrev pub second_of : ℕ → ℕ → ℕ
second_of n l = l % n

-- ---- Transitions

-- A transition of each sheet as one. With one clock a reset set is 0 or 1; the second sheet's clock is clock 2.
abbrev pub joint : ℕ → Transition → Transition → Transition
joint n t v = record { action = t.action; target = location_of n t.target v.target; resets = t.resets + 2 * v.resets; low1 = t.low1; high1 = t.high1; low2 = v.low1; high2 = v.high1 }

-- A transition of the first sheet with each of the second's that is for the same action.
unfoldable pub joints_of : ℕ → Transition → List Transition → List Transition
joints_of n t [] = []
joints_of n t (v ∷ vs) = cond (eqb t.action v.action) (joint n t v ∷ joints_of n t vs) (joints_of n t vs)

-- In the first sheet's order, and then in the second's.
unfoldable pub joints : ℕ → List Transition → List Transition → List Transition
joints n [] vs = []
joints n (t ∷ ts) vs = joints_of n t vs ++ joints n ts vs

-- ---- The product

module _ (s u : Bytes) where
  -- Location l, which is (i, j), accepts where i and j do, and its transitions are the joint ones of theirs.
  abbrev pub location_at : ℕ → Location
  location_at l = record { accepting = accepting s (first_of (locations u) l) && accepting u (second_of (locations u) l); transitions = joints (locations u) (transitions s (first_of (locations u) l)) (transitions u (second_of (locations u) l)) }

  -- k locations from l on.
  unfoldable pub locations_from : ℕ → ℕ → List Location
  locations_from zero l = []
  locations_from (suc k) l = location_at l ∷ locations_from k (suc l)

  abbrev pub all_locations : List Location
  all_locations = locations_from (locations s * locations u) 0

  abbrev pub product : Parts
  product = record { clocks = clocks s + clocks u; actions = actions s; initial = location_of (locations u) (initial s) (initial u); locations = all_locations }

  -- All its transitions, and the bytes of the joined sheet.
  abbrev pub product_transitions : List Transition
  product_transitions = transitions_in all_locations

  abbrev pub joined : Bytes
  joined = encode product

-- ---- What is promised of it

-- Two sheets that can be joined.
pub record Joinable (s u : Bytes) : Type 0 where
  pub first : WellFormed s
  pub second : WellFormed u
  pub same_actions : actions s ≡ actions u
  pub clocks_fit : clocks s + clocks u ≤ 2
  pub locations_fit : locations s * locations u ≤ max_count
  pub transitions_fit : length (product_transitions s u) ≤ max_transitions

-- The figures of the joined sheet.
abbrev pub product_counts : Bytes → Bytes → Counts
product_counts s u = record { locations = locations s * locations u; clocks = 2; actions = actions s; transitions = length (product_transitions s u); accepting = ones (word s 4) * ones (word u 4) }

-- What a load reads of the joined sheet: where it begins, its location (i, j), and all its transitions.
pub record ReadsBoth (s u : Bytes) : Type 0 where
  pub begins : initial (joined s u) ≡ location_of (locations u) (initial s) (initial u)
  pub accepts : (i j : ℕ) → i < locations s → j < locations u → accepting (joined s u) (location_of (locations u) i j) ≡ (accepting s i && accepting u j)
  pub leads : (i j : ℕ) → i < locations s → j < locations u → transitions (joined s u) (location_of (locations u) i j) ≡ joints (locations u) (transitions s i) (transitions u j)
  pub all : all_transitions (joined s u) ≡ product_transitions s u

-- The joined sheet has no refusal of its own, and loads at every date up to the last one, with its counts.
pub record Loadable (s u : Bytes) : Type 0 where
  pub formed : WellFormed (joined s u)
  pub counts : (d : ℕ) → d ≤ max_date → check (joined s u) d ≡ accepted (product_counts s u)

-- A run over a timed word from loading at d on, at whose end P holds of the date, the location and the reading of clock 1.
abbrev pub RunOf : Bytes → ℕ → (ℕ → ℕ → ℕ → Type 0) → List Event → Type 0
RunOf s d P w = Run (step s) (λ e p. P e p.location p.x) d (origin (automaton s d)) w

-- The joined sheet's runs are those of both sheets over the same timed words, so at the same dates: a run of it ends at (i, j) where theirs end at i and j, and the readings of its clocks are theirs. So it accepts what both accept, and a correction of it is just one of both.
pub record RunsBoth (s u : Bytes) : Type 1 where
  pub runs : (d : ℕ) (P Q : ℕ → ℕ → ℕ → Type 0) (w : List Event) → Run (step (joined s u)) (λ e p. P e (first_of (locations u) p.location) p.x × Q e (second_of (locations u) p.location) p.y) d (origin (automaton (joined s u) d)) w ↔ (RunOf s d P w × RunOf u d Q w)
  pub accepts : (d : ℕ) (w : List Event) → Accepts (automaton (joined s u) d) w ↔ (Accepts (automaton s d) w × Accepts (automaton u d) w)
  pub corrections : (d : ℕ) (w : List Event) (t : ℕ) (cs ds : List ℕ) → Correction (automaton (joined s u) d) w t cs ds ↔ (Correction (automaton s d) w t cs ds × Correction (automaton u d) w t cs ds)
