-- Rows: sets of readings of the first clock, a bit for each. What the operations on a row promise.
use Rattle.std.specs.Prelude.{◌≡◌, true, ◌↔◌, ℕ, ◌+◌, ◌^◌, ◌≤◌, ◌<◌, min}
use Rattle.enforcement.specs.Automaton.{bit}
use Rattle.enforcement.specs.Model.{top, width}

-- A reading is in a row, or a location in a set of locations.
abbrev pub In : ℕ → ℕ → Type 0
In x row = bit row x ≡ true

-- v has the readings from a up to, but not including, b.
pub record Interval (a b v : ℕ) : Type 0 where
  pub small : v < 2 ^ width
  pub right : (x : ℕ) → In x v ↔ ((a ≤ x) × (x < b))

-- v has the readings of the row a tick later.
pub record TickAfter (row v : ℕ) : Type 0 where
  pub small : v < 2 ^ width
  pub right : (x : ℕ) → In x v ↔ ((z : ℕ) × In z row × (x ≡ min (z + 1) top))

-- v has all readings from the lowest of the row on.
pub record Upward (row v : ℕ) : Type 0 where
  pub small : v < 2 ^ width
  pub right : (x : ℕ) → In x v ↔ ((z : ℕ) × In z row × (z ≤ x) × (x ≤ top))

-- v has the readings of the row that are not one more than one of the row before.
pub record Fresh (row before v : ℕ) : Type 0 where
  pub small : v < 2 ^ width
  pub right : (x : ℕ) → In x v ↔ (In x row × ((z : ℕ) → In z before → x ≡ z + 1 → ⊥))

-- v has the reading 0, if e has any.
pub record Flag (e v : ℕ) : Type 0 where
  pub small : v < 2 ^ width
  pub right : (x : ℕ) → In x v ↔ ((x ≡ 0) × ((z : ℕ) × In z e))

-- ---- Backwards, for readings up to saturation: what a row has above them means nothing

-- v is the row of the readings from which a tick leads into the row r.
pub record TickBefore (r v : ℕ) : Type 0 where
  pub bits : (x : ℕ) → x ≤ top → bit v x ≡ bit r (min (x + 1) top)

-- v is the row of the readings up to the highest of the row r.
pub record UpTo (r v : ℕ) : Type 0 where
  pub only : (x : ℕ) → x ≤ top → bit v x ≡ true → (j : ℕ) × (x ≤ j) × (j ≤ top) × (bit r j ≡ true)
  pub all : (x j : ℕ) → x ≤ j → j ≤ top → bit r j ≡ true → bit v x ≡ true

-- v has every reading or none, as the row r has reading 0.
pub record Spread (r v : ℕ) : Type 0 where
  pub bits : (x : ℕ) → x ≤ top → bit v x ≡ bit r 0

-- v has the readings that the row has not, each 0 or one more than one of the row before.
pub record Gaps (row before v : ℕ) : Type 0 where
  pub small : v < 2 ^ width
  pub right : (x : ℕ) → In x v ↔ ((x ≤ top) × (In x row → ⊥) × ((z : ℕ) → x ≡ z + 1 → In z before))

-- v is one more than the highest reading of the row, or 0 if it has none.
pub record Highest (row v : ℕ) : Type 0 where
  pub most : v ≤ width
  pub all : (x : ℕ) → x ≤ top → In x row → x < v
  pub last : (x : ℕ) → v ≡ x + 1 → In x row
