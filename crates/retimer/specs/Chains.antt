-- Chains: which locations are reached along one diagonal without a reset, each at its first position, and the least ticks so far of what left the diagonal or ended.
use Rattle.std.specs.Prelude.{◌≡◌, Bool, cond, ◌&&◌, List, ◌⊎◌, ◌↔◌, ℕ, ◌+◌, ◌-◌, ◌≤◌, ◌<◌, min, length, get_or, drop}
use Rattle.enforcement.specs.Limits.{max_count}
use Rattle.enforcement.specs.Automaton.{Bytes, Transition, bit, locations, transitions}
use Rattle.enforcement.specs.Model.{top, width}
use Rattle.retimer.specs.Row.{In}
use Rattle.retimer.specs.Locations.{InSheet, Added}
use Rattle.retimer.specs.Steps.{One}
use Rattle.retimer.specs.Waits.{saturation, along}
use Rattle.retimer.specs.Next.{LeadsFor}
use Rattle.retimer.specs.Costs.{never, EndsBy, just_reset, Ground}

-- A location of a set of which G holds.
pub record Member (places : ℕ) (G : ℕ → Type 0) : Type 0 where
  pub location : ℕ
  pub present : In location places
  pub holds : G location

-- Along the diagonal of x and y, with the actions cs left: the least so far, or a location that is reached, at its position, ends by w.
abbrev pub Covers : Bytes → List ℕ → ℕ → ℕ → List ℕ → ℕ → ℕ → ℕ → Type 0
Covers s cs x y here places best w = (best ≤ w) ⊎ Member places (λ (l : ℕ). EndsBy s cs w (get_or here l 0) (along x y l (get_or here l 0)))

-- The parts of a chain: a set of the automaton's locations, a position up to saturation for each of them, and the least so far.
pub record Chain (s : Bytes) (x y : ℕ) (here : List ℕ) (places best : ℕ) : Type 0 where
  pub each : length here ≡ max_count
  pub in_sheet : InSheet s places
  pub on_diagonal : (l : ℕ) → In l places → get_or here l 0 ≤ saturation x y
  pub best_most : best ≤ never

-- A state of the search: the action k is next, on the diagonal of x and y.
pub record Searching (s : Bytes) (cs : List ℕ) (k x y : ℕ) (first second : List ℕ) : Type 0 where
  pub ground : Ground s cs first second
  pub more : k < length cs
  pub first_fits : x ≤ top
  pub second_fits : y ≤ top

-- The location t is reached at u: it has the sooner of its position and u, or u where it was not reached yet.
pub record Arrived (here : List ℕ) (places t u : ℕ) (next : List ℕ) (places' : ℕ) : Type 0 where
  pub added : Added places t places'
  pub same_length : length next ≡ length here
  pub others : (l : ℕ) → (l ≡ t → ⊥) → get_or next l 0 ≡ get_or here l 0
  pub soon : get_or next t 0 ≤ u
  pub sooner : In t places → get_or next t 0 ≤ get_or here t 0
  pub either : (get_or next t 0 ≡ u) ⊎ (In t places × (get_or next t 0 ≡ get_or here t 0))

-- ---- Resets

-- The reading that a transition with this reset set, not empty, keeps where it is taken u ticks after the readings x and y; 0 where it keeps none.
unfoldable pub kept_at : ℕ → ℕ → ℕ → ℕ → ℕ
kept_at set x y u = cond (bit set 0) (cond (bit set 1) 0 (min (y + u) top)) (min (x + u) top)

-- How many of n positions are worth a look where the reading that is kept is z at the first of them: those up to its saturation, and one alone where none is kept.
unfoldable pub worth : ℕ → ℕ → ℕ → ℕ
worth set z n = min n (cond (bit set 0 && bit set 1) 1 (width - z))

-- A number below n of which G holds.
pub record Below (n : ℕ) (G : ℕ → Type 0) : Type 0 where
  pub index : ℕ
  pub below : index < n
  pub holds : G index

-- ---- What the parts of the search ask and promise

-- The n readings from z on are asked for, right after a reset that leads to the location t with the action k.
pub record OverAsked (s : Bytes) (cs : List ℕ) (k t z n from : ℕ) (first second : List ℕ) : Type 0 where
  pub ground : Ground s cs first second
  pub more : k + 1 < length cs
  pub target_fits : t < locations s
  pub readings_fit : z + n ≤ width
  pub from_fits : from ≤ top

-- The least of best and of the costs there, each after its position.
pub record OverDone (s : Bytes) (cs : List ℕ) (k t : ℕ) (clock : Bool) (z n from best v : ℕ) (first second : List ℕ) : Type 0 where
  pub ground : Ground s cs first second
  pub most : v ≤ best
  pub least : (w : ℕ) → w < never → (v ≤ w) ↔ ((best ≤ w) ⊎ Below n (λ (i : ℕ). EndsBy s (drop (k + 1) cs) w (from + i) (just_reset clock t (z + i))))

-- A chain with the actions after k left has gained what Q says; where k is the last action, no location was reached.
pub record Gained (s : Bytes) (cs : List ℕ) (k x y : ℕ) (Q : ℕ → Type 0) (here : List ℕ) (places best : ℕ) (next : List ℕ) (places' best' : ℕ) (first second : List ℕ) : Type 0 where
  pub ground : Ground s cs first second
  pub chain : Chain s x y next places' best'
  pub at_last : k + 1 ≡ length cs → places' ≡ places
  pub gains : (w : ℕ) → w < never → Covers s (drop (k + 1) cs) x y next places' best' w ↔ (Covers s (drop (k + 1) cs) x y here places best w ⊎ Q w)

-- The transition t is for the action k and, taken at some position from e on, lets all end by w.
abbrev pub Rule : Bytes → List ℕ → ℕ → ℕ → ℕ → ℕ → ℕ → Transition → Type 0
Rule s cs k x y e w t = LeadsFor (get_or cs k 0) (EndsBy s (drop (k + 1) cs) w) x y e t

-- One of the location l's transitions is such.
abbrev pub Rules : Bytes → List ℕ → ℕ → ℕ → ℕ → ℕ → ℕ → ℕ → Type 0
Rules s cs k x y l e w = One (Rule s cs k x y e w) (transitions s l)

-- The action k was played from a chain: it is a chain for the same, one action later, and no location was reached if that was the last.
pub record Played (s : Bytes) (cs : List ℕ) (k x y : ℕ) (here : List ℕ) (places best : ℕ) (next : List ℕ) (places' best' : ℕ) (first second : List ℕ) : Type 0 where
  pub ground : Ground s cs first second
  pub chain : Chain s x y next places' best'
  pub at_last : k + 1 ≡ length cs → places' ≡ 0
  pub same : (w : ℕ) → w < never → Covers s (drop k cs) x y here places best w ↔ Covers s (drop (k + 1) cs) x y next places' best' w
