-- Layers: the costs of configurations with the same actions left, as tables of half the locations each.
use Rattle.std.specs.Prelude.{◌≡◌, true, false, cond, List, [], ◌⊎◌, ◌↔◌, ℕ, suc, ◌+◌, ◌-◌, ◌*◌, ◌/◌, ◌≤◌, ◌<◌, min, length, get_or, drop}
use Rattle.enforcement.specs.Limits.{max_count}
use Rattle.enforcement.specs.Automaton.{Bytes, Transition, bit, locations, transitions, enabled}
use Rattle.enforcement.specs.TimedWord.{fire}
use Rattle.enforcement.specs.Loading.{WellFormed}
use Rattle.enforcement.specs.Model.{top, width}
use Rattle.retimer.specs.Steps.{One}
use Rattle.retimer.specs.Row.{In}
use Rattle.retimer.specs.Targets.{EntersAfter}
use Rattle.retimer.specs.Costs.{never, cost_at, configuration, place_of, Ground}

-- The locations of a table.
abbrev pub half : ℕ
half = max_count / 2

-- The place of a location of a table with its readings.
abbrev pub cell_of : ℕ → ℕ → ℕ → ℕ
cell_of m x y = (m * width + y) * width + x

-- What a table says of a location with its readings.
abbrev pub cell : List ℕ → ℕ → ℕ → ℕ → ℕ
cell table m x y = get_or table (cell_of m x y) 0

-- A reading a tick later.
abbrev pub tick : ℕ → ℕ
tick z = min (z + 1) top

-- A transition for the action c is enabled at once, and with the actions cs after it all ends by w.
abbrev pub Now : Bytes → ℕ → List ℕ → ℕ → ℕ → ℕ → Transition → Type 0
Now s c cs w x y t = (t.action ≡ c) × ((enabled t x y ≡ true) × (cost_at s cs (fire t (configuration 0 x y)) ≤ w))

-- One of the location's transitions is such.
abbrev pub NowOne : Bytes → ℕ → List ℕ → ℕ → ℕ → ℕ → ℕ → Type 0
NowOne s c cs l x y w = One (Now s c cs w x y) (transitions s l)

-- A table of which all other locations are as before.
pub record Others (m : ℕ) (table table' : List ℕ) : Type 0 where
  pub same_length : length table' ≡ length table
  pub same : (n x y : ℕ) → (n ≡ m → ⊥) → x ≤ top → y ≤ top → cell table' n x y ≡ cell table n x y

-- A table of costs at most never.
abbrev pub Small : List ℕ → Type 0
Small table = (i : ℕ) → get_or table i 0 ≤ never

-- A row of a table stands from `here` on.
pub record RowAsked (here : ℕ) (table : List ℕ) : Type 0 where
  pub small : Small table
  pub size : length table ≡ half * (width * width)
  pub inside : here + width ≤ half * (width * width)

-- One row of a table: each of its costs is the lesser of itself and of one more than that a tick later.
pub record RowTicked (here above : ℕ) (table table' : List ℕ) : Type 0 where
  pub same_length : length table' ≡ length table
  pub ticked : (x : ℕ) → x ≤ top → get_or table' (here + x) 0 ≡ min (get_or table (here + x) 0) (suc (get_or table' (above + tick x) 0))
  pub same : (i : ℕ) → (i < here) ⊎ (here + width ≤ i) → get_or table' i 0 ≡ get_or table i 0

-- A cost of a table is the lesser of what it was and of one more than that a tick later.
abbrev pub Ticked : ℕ → ℕ → ℕ → List ℕ → List ℕ → Type 0
Ticked m x y table table' = cell table' m x y ≡ min (cell table m x y) (suc (cell table' m (tick x) (tick y)))

-- Of `count` locations there are n from h on, and a table can hold them.
pub record Stretch (count h n : ℕ) : Type 0 where
  pub in_half : n ≤ half
  pub in_count : h + n ≤ count

-- Of n locations from h on, the one at the place m of their table is chosen: it is in a set.
pub record Chosen (h n places m : ℕ) : Type 0 where
  pub in_range : m < n
  pub has : In (h + m) places

-- A location is one of these.
abbrev pub ChosenFrom : ℕ → ℕ → ℕ → ℕ → Type 0
ChosenFrom h n places l = (m : ℕ) × Chosen h n places m × (h + m ≡ l)

-- The row y of each location at a place with P is ticked, and all else is as before.
pub record RowsTicked (P : ℕ → Type 0) (y : ℕ) (table table' : List ℕ) : Type 0 where
  pub same_length : length table' ≡ length table
  pub small : Small table'
  pub ticked : (m x : ℕ) → P m → x ≤ top → Ticked m x y table table'
  pub same : (m x z : ℕ) → (P m → ⊥) ⊎ (z ≡ y → ⊥) → x ≤ top → z ≤ top → cell table' m x z ≡ cell table m x z

-- All rows of each location at a place with P are ticked.
pub record AllTicked (P : ℕ → Type 0) (table table' : List ℕ) : Type 0 where
  pub same_length : length table' ≡ length table
  pub small : Small table'
  pub ticked : (m x y : ℕ) → P m → x ≤ top → y ≤ top → Ticked m x y table table'

-- A table has, at its place m, the costs of the location l with the actions cs left.
abbrev pub Laid : Bytes → List ℕ → ℕ → ℕ → List ℕ → Type 0
Laid s cs l m table = (x y : ℕ) → x ≤ top → y ≤ top → cell table m x y ≡ cost_at s cs (configuration l x y)

-- The costs with the actions cs left, of those locations from h on with C.
pub record Layer (s : Bytes) (cs : List ℕ) (C : ℕ → Type 0) (h : ℕ) (table : List ℕ) : Type 0 where
  pub size : length table ≡ half * (width * width)
  pub laid : (m : ℕ) → m < half → C (h + m) → Laid s cs (h + m) m table

-- The places of a row up to the column `end` lie in a table.
pub record LineAsked (to end : ℕ) (table : List ℕ) : Type 0 where
  pub size : length table ≡ half * (width * width)
  pub narrow : end ≤ width
  pub inside : to + width ≤ half * (width * width)

-- From the columns x up to end of one row, the lesser of each cost and of another.
pub record RowLowered (other : ℕ → ℕ) (to x end : ℕ) (table table' : List ℕ) : Type 0 where
  pub same_length : length table' ≡ length table
  pub lowered : (i : ℕ) → x ≤ i → i < end → get_or table' (to + i) 0 ≡ min (get_or table (to + i) 0) (other i)
  pub same : (i : ℕ) → (i < to + x) ⊎ (to + end ≤ i) → get_or table' i 0 ≡ get_or table i 0
  pub lesser : (i : ℕ) → get_or table' i 0 ≤ get_or table i 0

-- Where a transition is enabled, the lesser of each cost of the location m and of that in another table, at its place t, to which the transition leads.
pub record BoxLowered (v : Transition) (other : List ℕ) (t m : ℕ) (table table' : List ℕ) : Type 0 where
  pub others : Others m table table'
  pub lesser : (i : ℕ) → get_or table' i 0 ≤ get_or table i 0
  pub inside : (x y : ℕ) → x ≤ top → y ≤ top → enabled v x y ≡ true → cell table' m x y ≡ min (cell table m x y) (cell other t (cond (bit v.resets 0) 0 x) (cond (bit v.resets 1) 0 y))
  pub outside : (x y : ℕ) → x ≤ top → y ≤ top → enabled v x y ≡ false → cell table' m x y ≡ cell table m x y

-- The action k is next, and the tables have the costs of the locations with C after it.
pub record Laying (s cs : List ℕ) (k : ℕ) (C : ℕ → Type 0) (low high : List ℕ) : Type 0 where
  pub loads : WellFormed s
  pub more : k < length cs
  pub few : length cs ≤ max_count + 1
  pub low_layer : Layer s (drop (k + 1) cs) C 0 low
  pub high_layer : Layer s (drop (k + 1) cs) C half high

-- A table that is to have the costs of one more location.
pub record Ready (m : ℕ) (table : List ℕ) : Type 0 where
  pub in_half : m < half
  pub size : length table ≡ half * (width * width)
  pub small : Small table

-- The location m of a table has the same cost everywhere.
pub record Cleared (m c : ℕ) (table table' : List ℕ) : Type 0 where
  pub others : Others m table table'
  pub small : Small table'
  pub clear : (x y : ℕ) → x ≤ top → y ≤ top → cell table' m x y ≡ c

-- A table has got the costs of the location l with the actions cs left.
pub record LocationLaid (s : Bytes) (cs : List ℕ) (l m : ℕ) (table table' : List ℕ) : Type 0 where
  pub others : Others m table table'
  pub small : Small table'
  pub laid : Laid s cs l m table'

-- What Q says of readings and a number was taken into the location m of a table.
pub record Took (Q : ℕ → ℕ → ℕ → Type 0) (m : ℕ) (table table' : List ℕ) : Type 0 where
  pub others : Others m table table'
  pub small : Small table'
  pub takes : (x y : ℕ) → x ≤ top → y ≤ top → (w : ℕ) → w < never → (cell table' m x y ≤ w) ↔ ((cell table m x y ≤ w) ⊎ Q x y w)

-- A table has, at its place m, what the action c costs at once at the location l, with the actions cs after it.
abbrev pub AtOnce : Bytes → ℕ → List ℕ → ℕ → ℕ → List ℕ → Type 0
AtOnce s c cs l m table = (x y : ℕ) → x ≤ top → y ≤ top → (w : ℕ) → w < never → (cell table m x y ≤ w) ↔ NowOne s c cs l x y w

-- A table has got that.
pub record LocationWritten (s : Bytes) (c : ℕ) (cs : List ℕ) (l m : ℕ) (table table' : List ℕ) : Type 0 where
  pub others : Others m table table'
  pub small : Small table'
  pub at_once : AtOnce s c cs l m table'

-- A table has, at its places with P, what the action c costs at once at those of the locations from h on.
pub record AllWritten (s : Bytes) (c : ℕ) (cs : List ℕ) (h : ℕ) (P : ℕ → Type 0) (table table' : List ℕ) : Type 0 where
  pub same_length : length table' ≡ length table
  pub small : Small table'
  pub at_once : (m : ℕ) → P m → AtOnce s c cs (h + m) m table'

-- A table has, at its places with P, the costs of those of the locations from h on.
abbrev pub AllLaid : Bytes → List ℕ → ℕ → (ℕ → Type 0) → List ℕ → Type 0
AllLaid s cs h P table = (m : ℕ) → P m → Laid s cs (h + m) m table

-- The costs of the location l with the actions cs left stand in its table; the other table is as before.
pub record OneLaid (s cs : List ℕ) (l : ℕ) (low high low' high' : List ℕ) : Type 0 where
  pub in_low : l < half → LocationLaid s cs l l low low' × (high' ≡ high)
  pub in_high : half ≤ l → LocationLaid s cs l (l - half) high high' × (low' ≡ low)

-- The memos have an entry for the action j next and the location l, whatever the reading.
abbrev pub Noted : ℕ → ℕ → List ℕ → List ℕ → Type 0
Noted j l first second = (z : ℕ) → z ≤ top → (0 < get_or first (place_of j l z) 0) × (0 < get_or second (place_of j l z) 0)

-- They have the entries for all actions from k on, each with all locations that can be entered by then from one with C.
abbrev pub Full : Bytes → List ℕ → ℕ → (ℕ → Type 0) → List ℕ → List ℕ → Type 0
Full s cs k C first second = (n i l : ℕ) → k + n < length cs → C i → EntersAfter s (drop k cs) n i l → Noted (k + n) l first second

-- They have the entries for all actions but the first, each with all locations that can be entered by then from i.
abbrev pub NotedFrom : Bytes → List ℕ → ℕ → List ℕ → List ℕ → Type 0
NotedFrom s cs i first second = (k l : ℕ) → 1 ≤ k → k < length cs → EntersAfter s cs k i l → Noted k l first second

-- No entry is lost.
abbrev pub Lasts : List ℕ → List ℕ → Type 0
Lasts memo memo' = (i : ℕ) → 0 < get_or memo i 0 → 0 < get_or memo' i 0

-- The memos are right, with the entries of all locations with C, and none is lost.
pub record Noting (s cs : List ℕ) (k : ℕ) (C : ℕ → Type 0) (first second first' second' : List ℕ) : Type 0 where
  pub first_kept : length first' ≡ length first
  pub second_kept : length second' ≡ length second
  pub ground : Ground s cs first' second'
  pub noted : (l : ℕ) → C l → Noted k l first' second'
  pub first_lasts : Lasts first first'
  pub second_lasts : Lasts second second'

-- The tables have the costs of all locations where all is played.
pub record Ended (s low high : List ℕ) : Type 0 where
  pub low_layer : Layer s [] (λ (l : ℕ). l < locations s) 0 low
  pub high_layer : Layer s [] (λ (l : ℕ). l < locations s) half high
  pub low_small : Small low
  pub high_small : Small high

-- The tables have the costs of the locations of a set from the action k on, and the memos are right and have the entries of all that can be entered from there.
pub record LayersOf (s cs : List ℕ) (k places : ℕ) (low high first second : List ℕ) : Type 0 where
  pub low_layer : Layer s (drop k cs) (λ (l : ℕ). In l places) 0 low
  pub high_layer : Layer s (drop k cs) (λ (l : ℕ). In l places) half high
  pub low_small : Small low
  pub high_small : Small high
  pub ground : Ground s cs first second
  pub full : Full s cs k (λ (l : ℕ). In l places) first second

-- The memos are right, and have the entries of all locations that can be entered from a set by the actions after the first.
pub record Filled (s cs : List ℕ) (places : ℕ) (first second : List ℕ) : Type 0 where
  pub ground : Ground s cs first second
  pub full : Full s cs 1 (λ (l : ℕ). In l places) first second
