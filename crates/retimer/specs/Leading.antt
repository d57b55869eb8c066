-- What a transition and waits add to a set backwards: the configurations from which they lead into it.
-- These sets have all rows, of which with one clock only the last is used; bits above saturation mean nothing.
use Rattle.std.specs.Prelude.{◌≡◌, Bool, true, false, cond, ◌&&◌, ◌||◌, List, [], ◌∷◌, ℕ, ◌+◌, ◌*◌, ◌-◌, ◌^◌, ◌≤◌, ◌<◌, min, length, get_or, set}
use Rattle.std.specs.Int.Bits.{bit_or}
use Rattle.enforcement.specs.Limits.{max_count}
use Rattle.enforcement.specs.Automaton.{Transition, bit, enabled}
use Rattle.enforcement.specs.Model.{top, width}
use Rattle.retimer.specs.Sets.{has}

-- How many rows there are.
abbrev pub all_rows : ℕ
all_rows = max_count * width

-- The set has a configuration.
abbrev pub member : List ℕ → ℕ → ℕ → ℕ → Bool
member t l x y = has width t l x y

-- By how much the rows, as numbers, can still grow.
abbrev pub slack : List ℕ → ℕ
slack [] = 0
slack (v ∷ t) = (2 ^ 64 - 1 - v) + slack t

-- The readings after a transition.
abbrev pub kept_first : Transition → ℕ → ℕ
kept_first u x = cond (bit u.resets 0) 0 x

abbrev pub kept_second : Transition → ℕ → ℕ
kept_second u y = cond (bit u.resets 1) 0 y

-- The transition is enabled at the readings and leads into the rows.
unfoldable pub leads : List ℕ → Transition → ℕ → ℕ → Bool
leads t u x y = enabled u x y && member t u.target (kept_first u x) (kept_second u y)

-- v is the row of the first readings with which the transition's resets lead into the rows, at the second reading y.
pub record Leading (t : List ℕ) (target resets y v : ℕ) : Type 0 where
  pub bits : (x : ℕ) → x ≤ top → bit v x ≡ member t target (cond (bit resets 0) 0 x) (cond (bit resets 1) 0 y)

-- The row i gains the readings of m; b says whether it is another than before.
pub record RowAdded (t u : List ℕ) (i m : ℕ) (b : Bool) : Type 0 where
  pub stored : u ≡ set t i (bit_or (get_or t i 0) m)
  pub larger : b ≡ true → slack u < slack t
  pub same : b ≡ false → u ≡ t

-- Rows of other locations than l stay.
abbrev pub Others : List ℕ → List ℕ → ℕ → Type 0
Others t u l = (k y : ℕ) → (k ≡ l → ⊥) → y ≤ top → get_or u (k * width + y) 0 ≡ get_or t (k * width + y) 0

-- The location l gains exactly the configurations from which the transition leads into the rows, but for second readings below from; b says whether the rows
-- are others than before.
pub record TransitionAdded (t u : List ℕ) (l from : ℕ) (v : Transition) (b : Bool) : Type 0 where
  pub sized : length u ≡ length t
  pub others : Others t u l
  pub exact : (x y : ℕ) → x ≤ top → from ≤ y → y ≤ top → member u l x y ≡ (member t l x y || leads t v x y)
  pub below : (y : ℕ) → y < from → y ≤ top → get_or u (l * width + y) 0 ≡ get_or t (l * width + y) 0
  pub larger : b ≡ true → slack u < slack t
  pub same : b ≡ false → u ≡ t

-- A configuration of the location from which some wait leads into the rows.
abbrev pub Waits : List ℕ → ℕ → ℕ → ℕ → Type 0
Waits t l x y = (n : ℕ) × (member t l (min (x + n) top) (min (y + n) top) ≡ true)

-- The location l gains the configurations from which some wait leads into its rows, but for second readings below from.
pub record WaitsAdded (t u : List ℕ) (l from : ℕ) : Type 0 where
  pub sized : length u ≡ length t
  pub others : Others t u l
  pub only : (x y : ℕ) → x ≤ top → from ≤ y → y ≤ top → member u l x y ≡ true → Waits t l x y
  pub all : (x y : ℕ) → x ≤ top → from ≤ y → y ≤ top → Waits t l x y → member u l x y ≡ true
  pub below : (y : ℕ) → y < from → y ≤ top → get_or u (l * width + y) 0 ≡ get_or t (l * width + y) 0
  pub grows : slack u ≤ slack t

-- The location l has every configuration now, but for second readings below from; the rows have grown if the last one of l could.
pub record LocationFilled (t u : List ℕ) (l from : ℕ) : Type 0 where
  pub sized : length u ≡ length t
  pub others : Others t u l
  pub full : (x y : ℕ) → x ≤ top → from ≤ y → y ≤ top → member u l x y ≡ true
  pub below : (y : ℕ) → y < from → y ≤ top → get_or u (l * width + y) 0 ≡ get_or t (l * width + y) 0
  pub larger : get_or t (l * width + top) 0 < 2 ^ 64 - 1 → slack u < slack t

-- The locations of a set have every configuration now, the others are as they were.
pub record Filled (t u : List ℕ) (places : ℕ) : Type 0 where
  pub sized : length u ≡ length t
  pub full : (l x y : ℕ) → l < max_count → x ≤ top → y ≤ top → bit places l ≡ true → member u l x y ≡ true
  pub other : (l x y : ℕ) → y ≤ top → bit places l ≡ false → member u l x y ≡ member t l x y
