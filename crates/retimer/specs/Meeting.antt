-- Whether a set of configurations as rows has one that the counts have. Row i of a location with h rows stands for the second reading `second h i`.
use Rattle.std.specs.Prelude.{◌≡◌, true, List, ℕ, ◌*◌, ◌^◌, ◌≤◌, ◌<◌, length}
use Rattle.enforcement.specs.Limits.{max_count}
use Rattle.enforcement.specs.Automaton.{Bytes, locations}
use Rattle.enforcement.specs.TimedWord.{Configuration}
use Rattle.enforcement.specs.Model.{top, width}
use Rattle.retimer.specs.Row.{In}
use Rattle.retimer.specs.Sets.{second, Narrow, Marked, Contains, Reached}
use Rattle.retimer.specs.Counts.{counts_size, counted}

-- What is asked for the readings of a row beside the second reading y.
pub record RowAsked (counts : List ℕ) (l y row : ℕ) : Type 0 where
  pub sized : length counts ≡ counts_size
  pub in_range : l < max_count
  pub second : y ≤ top
  pub small : row < 2 ^ width

-- The counts have one of them.
abbrev pub MeetsRow : List ℕ → ℕ → ℕ → ℕ → Type 0
MeetsRow counts l y row = (x : ℕ) × In x row × (counted counts l x y ≡ true)

-- What is asked of the counts, and of rows for the first n locations, h for each.
pub record RowsAsked (counts set : List ℕ) (n h : ℕ) : Type 0 where
  pub counts_sized : length counts ≡ counts_size
  pub some : 1 ≤ h
  pub most : h ≤ width
  pub sized : n * h ≤ length set
  pub narrow : Narrow set

-- The counts have one of a location's members.
abbrev pub MeetsAt : List ℕ → ℕ → List ℕ → ℕ → Type 0
MeetsAt counts l set h = (x : ℕ) × (i : ℕ) × (i < h) × Marked h set l x i × (counted counts l x (second h i) ≡ true)

-- Every member's location is below n, and among the places.
abbrev pub Covered : List ℕ → ℕ → ℕ → ℕ → Type 0
Covered set places n h = (l x i : ℕ) → i < h → Marked h set l x i → In l places × (l < n)

-- ---- By membership alone

-- What is asked for a set of an automaton's configurations.
pub record MeetAsked (s : Bytes) (counts set : List ℕ) (places : ℕ) : Type 0 where
  pub long : 1 < length s
  pub fits : locations s ≤ max_count
  pub counts_sized : length counts ≡ counts_size
  pub reached : Reached s set places

-- The counts have a member of the set.
abbrev pub Meets : Bytes → List ℕ → List ℕ → Type 0
Meets s counts set = (q : Configuration) × Contains s set q × (counted counts q.location q.x q.y ≡ true)
