-- Sets of locations as numbers, a bit for each.
use Rattle.std.specs.Prelude.{◌≡◌, ◌||◌, ℕ, ◌<◌, eqb}
use Rattle.enforcement.specs.Automaton.{Bytes, bit, locations}
use Rattle.retimer.specs.Row.{In}

-- A set of the automaton's locations.
abbrev pub InSheet : Bytes → ℕ → Type 0
InSheet s places = (l : ℕ) → In l places → l < locations s

-- v is a set with l added.
pub record Added (set l v : ℕ) : Type 0 where
  pub bits : (j : ℕ) → bit v j ≡ (eqb j l || bit set j)
