-- What a location of the product stands for, and where the transitions of a sheet's location lie in its bytes.
use Rattle.std.specs.Prelude.{◌≡◌, List, ℕ, ◌+◌, ◌*◌, ◌≤◌, ◌<◌, length}
use Rattle.enforcement.specs.Limits.{max_size}
use Rattle.enforcement.specs.Automaton.{Bytes, Transition, transition_at, transitions_from, transitions, locations}
use Rattle.enforcement.specs.Loading.{Fits, AllFit}
use Rattle.product.specs.declared.location.Both.{Both}
use Rattle.product.specs.declared.row.Row.{Row}
use Rattle.product.specs.Product.{first_of, second_of}

-- What location l stands for: a location of each sheet.
pub record BothRight (s u : Bytes) (l : ℕ) (r : Both) : Type 0 where
  pub first_is : r.first ≡ first_of (locations u) l
  pub second_is : r.second ≡ second_of (locations u) l
  pub first_in : r.first < locations s
  pub second_in : r.second < locations u

-- The transitions in a row.
abbrev pub row_transitions : Bytes → Row → List Transition
row_transitions s r = transitions_from s r.count r.first

-- A row lies within the bytes, and is not longer than a sheet.
pub record RowIn (s : Bytes) (r : Row) : Type 0 where
  pub short : r.count ≤ max_size
  pub inside : r.first + 7 * r.count ≤ length s

-- It is that of a location.
pub record RowRight (s : Bytes) (l : ℕ) (r : Row) : Type 0 where
  pub row_in : RowIn s r
  pub is : row_transitions s r ≡ transitions s l

-- The transition at a place lies within the bytes, and its fields are in range.
pub record FittingAt (s : Bytes) (p : ℕ) : Type 0 where
  pub inside : p + 7 ≤ length s
  pub fits : Fits s (transition_at s p)

-- A row whose transitions do.
pub record FittingRow (s : Bytes) (r : Row) : Type 0 where
  pub row_in : RowIn s r
  pub all_fit_lem : AllFit s (row_transitions s r)
