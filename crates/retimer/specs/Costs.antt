-- Costs: the least ticks of a list of actions as a number, and the two memos that keep those right after a reset.
use Rattle.std.specs.Prelude.{◌≡◌, Bool, true, false, List, ℕ, suc, ◌+◌, ◌-◌, ◌*◌, ◌/◌, ◌%◌, ◌≤◌, ◌<◌, length, get_or, drop}
use Rattle.enforcement.specs.Limits.{max_count}
use Rattle.enforcement.specs.Automaton.{Bytes, locations}
use Rattle.enforcement.specs.TimedWord.{Configuration}
use Rattle.enforcement.specs.Loading.{WellFormed}
use Rattle.enforcement.specs.Model.{top, width, Prospect, ticks, extensible, dead, prospect, compile}

-- The cost where a list has no correction: one more than the most ticks of a correction.
abbrev pub never : ℕ
never = suc ((max_count + 1) * top)

-- The ticks of a prospect; never where it has none.
abbrev pub cost : Prospect → ℕ
cost (ticks n) = n
cost extensible = never
cost dead = never

-- The least ticks of the actions cs from a configuration; never where they have no correction.
abbrev pub cost_at : Bytes → List ℕ → Configuration → ℕ
cost_at s cs q = cost (prospect (compile s) cs q)

-- With the actions cs played from a configuration that is reached at position u, all ends by w. It is asked of numbers below never alone.
abbrev pub EndsBy : Bytes → List ℕ → ℕ → ℕ → Configuration → Type 0
EndsBy s cs w u q = u + cost_at s cs q ≤ w

-- A location with two readings.
abbrev pub configuration : ℕ → ℕ → ℕ → Configuration
configuration l x y = record { location = l; x = x; y = y }

-- ---- The memos

-- The configuration right after a reset of the first clock, or of the second, with the other's reading.
abbrev pub just_reset : Bool → ℕ → ℕ → Configuration
just_reset false l z = configuration l 0 z
just_reset true l z = configuration l z 0

-- The place for the action k next, a location, and the reading that is kept. The first action needs no place.
abbrev pub place_of : ℕ → ℕ → ℕ → ℕ
place_of k l z = ((k - 1) * max_count + l) * width + z

-- Which action is next at a place, at which location, and with which reading.
abbrev pub next_at : ℕ → ℕ
next_at i = i / (max_count * width) + 1

abbrev pub location_at : ℕ → ℕ
location_at i = i / width % max_count

abbrev pub reading_at : ℕ → ℕ
reading_at i = i % width

-- The places for n actions.
abbrev pub places_for : ℕ → ℕ
places_for n = (n - 1) * (max_count * width)

-- A memo with a place for each that is asked for. Each entry is 0, or one more than a cost right after a reset: of the second clock where `second` holds, else of the first.
pub record Known (s : Bytes) (cs : List ℕ) (second : Bool) (memo : List ℕ) : Type 0 where
  pub right : (i : ℕ) → 0 < get_or memo i 0 → get_or memo i 0 ≡ cost_at s (drop (next_at i) cs) (just_reset second (location_at i) (reading_at i)) + 1
  pub places : places_for (length cs) ≤ length memo

-- What the search rests on throughout.
pub record Ground (s : Bytes) (cs first second : List ℕ) : Type 0 where
  pub loads : WellFormed s
  pub few : length cs ≤ max_count + 1
  pub after_first : Known s cs false first
  pub after_second : Known s cs true second

-- A cost was found, and the memos are still right.
pub record Costed (s : Bytes) (cs first second : List ℕ) (a v : ℕ) : Type 0 where
  pub value_is : v ≡ a
  pub ground : Ground s cs first second

-- The cost right after a reset is asked for, neither before the first action nor after the last.
pub record AfterAsked (s : Bytes) (cs : List ℕ) (k l z : ℕ) (first second : List ℕ) : Type 0 where
  pub ground : Ground s cs first second
  pub some_played : 1 ≤ k
  pub more : k < length cs
  pub in_sheet : l < locations s
  pub reading_fits : z ≤ top
