-- The readings of the two clocks as the code holds them, a list of two, and configurations made of them.
use Rattle.std.specs.Prelude.{◌≡◌, cond, List, [], ◌∷◌, ℕ, ◌+◌, ◌≤◌, ◌<◌, min, eqb, length, get_or}
use Rattle.enforcement.specs.Automaton.{Bytes, bit, locations, clocks}
use Rattle.enforcement.specs.TimedWord.{Configuration}
use Rattle.enforcement.specs.Model.{top, width}

-- Two saturated readings.
pub record Readings (r : List ℕ) : Type 0 where
  pub two : length r ≡ 2
  pub first : get_or r 0 0 ≤ top
  pub second : get_or r 1 0 ≤ top

-- The readings n ticks later.
unfoldable pub waited : ℕ → List ℕ → List ℕ
waited n r = min (get_or r 0 0 + n) top ∷ min (get_or r 1 0 + n) top ∷ []

-- The readings after the clocks of a set are reset.
unfoldable pub reset_by : ℕ → List ℕ → List ℕ
reset_by set r = cond (bit set 0) 0 (get_or r 0 0) ∷ cond (bit set 1) 0 (get_or r 1 0) ∷ []

-- One past the largest reading, up to saturation, that a high bound allows; the high 255 is no bound.
abbrev pub past : ℕ → ℕ
past high = cond (eqb high 255) width (high + 1)

-- A location with readings.
abbrev pub located : ℕ → List ℕ → Configuration
located l r = record { location = l; x = get_or r 0 0; y = get_or r 1 0 }

-- A configuration of the automaton as the code holds it. The second clock of an automaton with one clock counts as saturated.
pub record Standing (s : Bytes) (l : ℕ) (r : List ℕ) : Type 0 where
  pub in_sheet : l < locations s
  pub readings : Readings r
  pub one_clock : clocks s ≡ 1 → get_or r 1 0 ≡ top

-- A valuation of the automaton's clocks as the code holds it.
pub record Valuation (s : Bytes) (r : List ℕ) : Type 0 where
  pub readings : Readings r
  pub one_clock : clocks s ≡ 1 → get_or r 1 0 ≡ top
