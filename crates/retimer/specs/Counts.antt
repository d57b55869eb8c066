-- Sets of configurations as counts, one for each diagonal: a position is in the set where it and the count together stay below `width`.
use Rattle.std.specs.Prelude.{◌≡◌, Bool, true, cond, List, ℕ, ◌+◌, ◌*◌, ◌-◌, ◌≤◌, ◌<◌, min, eqb, ltb, length, get_or}
use Rattle.enforcement.specs.Limits.{max_count}
use Rattle.enforcement.specs.Model.{top, width}
use Rattle.retimer.specs.Row.{In}
use Rattle.retimer.specs.Leading.{all_rows, member}

-- Places for the diagonals of a location: the first is that of every saturated y; then come those of equal difference x - y; on the last place lies none.
abbrev pub diagonals : ℕ
diagonals = 2 * width

abbrev pub counts_size : ℕ
counts_size = max_count * diagonals

-- The diagonal that two readings lie on, and their position on it.
unfoldable pub diagonal : ℕ → ℕ → ℕ
diagonal x y = cond (eqb y top) 0 (x + (top - y))

unfoldable pub position : ℕ → ℕ → ℕ
position x y = cond (eqb y top) x (min x y)

-- The place of a diagonal's count.
abbrev pub place : ℕ → ℕ → ℕ → ℕ
place l x y = l * diagonals + diagonal x y

-- The counts have a configuration.
abbrev pub counted : List ℕ → ℕ → ℕ → ℕ → Bool
counted t l x y = ltb (position x y + get_or t (place l x y) 0) width

-- The rows have, with a configuration, the one a tick before it. Second readings below `from` are left out.
abbrev pub Closed : List ℕ → ℕ → ℕ → Type 0
Closed rows from l = (x y : ℕ) → x ≤ top → from ≤ y → y ≤ top → member rows l (min (x + 1) top) (min (y + 1) top) ≡ true → member rows l x y ≡ true

-- A configuration of the location l lies on a place. Second readings below `from` are left out.
abbrev pub Lies : ℕ → ℕ → ℕ → Type 0
Lies l from j = (x : ℕ) × (y : ℕ) × (x ≤ top) × (from ≤ y) × (y ≤ top) × (j ≡ place l x y)

-- The counts have the configurations of the rows, at the first n locations, second readings below `from` left out; and 0 on every place where none of those lies.
pub record Counted (rows counts : List ℕ) (n from : ℕ) : Type 0 where
  pub sized : length counts ≡ counts_size
  pub right : (l x y : ℕ) → l < n → x ≤ top → from ≤ y → y ≤ top → counted counts l x y ≡ member rows l x y
  pub rest : (j : ℕ) → ((l : ℕ) → l < n → Lies l from j → ⊥) → get_or counts j 0 ≡ 0

-- ---- How they are found: the first position of each diagonal that is missing, row by row, the lowest second reading first

-- The diagonals of the readings beside y end before them, the other diagonals are as they were.
pub record Stored (counts new : List ℕ) (l y gaps : ℕ) : Type 0 where
  pub sized : length new ≡ length counts
  pub here : (x : ℕ) → In x gaps → get_or new (place l x y) 0 ≡ width - position x y
  pub other : (j : ℕ) → ((x : ℕ) → In x gaps → j ≡ place l x y → ⊥) → get_or new j 0 ≡ get_or counts j 0

-- The counts stay where no configuration of l lies.
abbrev pub Rest : List ℕ → List ℕ → ℕ → ℕ → Type 0
Rest counts new l from = (j : ℕ) → (Lies l from j → ⊥) → get_or new j 0 ≡ get_or counts j 0

-- What is asked for a location to be counted.
pub record LocationAsked (rows counts : List ℕ) (l from : ℕ) : Type 0 where
  pub rows_sized : length rows ≡ all_rows
  pub sized : length counts ≡ counts_size
  pub in_range : l < max_count
  pub from_fits : from ≤ top
  pub closed : Closed rows from l
  pub empty : (i : ℕ) → i < diagonals → get_or counts (l * diagonals + i) 0 ≡ 0

-- The counts have its configurations below the saturated row.
pub record RowsCounted (rows counts new : List ℕ) (l from : ℕ) : Type 0 where
  pub sized : length new ≡ counts_size
  pub rest : Rest counts new l from
  pub right : (x y : ℕ) → x ≤ top → from ≤ y → y < top → counted new l x y ≡ member rows l x y

-- The counts have its configurations.
pub record LocationCounted (rows counts new : List ℕ) (l from : ℕ) : Type 0 where
  pub sized : length new ≡ counts_size
  pub rest : Rest counts new l from
  pub right : (x y : ℕ) → x ≤ top → from ≤ y → y ≤ top → counted new l x y ≡ member rows l x y

-- What is asked for the first n locations.
pub record CountAsked (rows counts : List ℕ) (n from : ℕ) : Type 0 where
  pub rows_sized : length rows ≡ all_rows
  pub sized : length counts ≡ counts_size
  pub in_range : n ≤ max_count
  pub from_fits : from ≤ top
  pub closed : (l : ℕ) → l < n → Closed rows from l
  pub empty : (j : ℕ) → get_or counts j 0 ≡ 0
