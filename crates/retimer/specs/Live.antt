-- What the table of live configurations promises, and the words of the functions that find it.
use Rattle.std.specs.Prelude.{◌≡◌, Bool, true, false, cond, List, ◌⊎◌, ℕ, ◌+◌, ◌-◌, ◌%◌, ◌≤◌, ◌<◌, eqb, length, get_or}
use Rattle.enforcement.specs.Limits.{max_count}
use Rattle.enforcement.specs.Automaton.{Bytes, Transition, byte, bit, accepting, clocks, locations, offset, size, transition_at}
use Rattle.enforcement.specs.Model.{top, compile}
use Rattle.retimer.specs.Readings.{Standing, located}
use Rattle.retimer.specs.Counts.{counts_size, counted, place, Closed}
use Rattle.retimer.specs.Leading.{all_rows, member, slack, leads, Others}

-- The table has exactly the configurations from which an accepting location can still be reached, and 0 on every place where none of the automaton's lies.
pub record LiveTable (s : Bytes) (t : List ℕ) : Type 0 where
  pub sized : length t ≡ counts_size
  pub fits : locations s ≤ max_count
  pub right : (l : ℕ) (r : List ℕ) → Standing s l r → counted t l (get_or r 0 0) (get_or r 1 0) ≡ (compile s).live (located l r)
  pub rest : (j : ℕ) → ((l : ℕ) (r : List ℕ) → Standing s l r → j ≡ place l (get_or r 0 0) (get_or r 1 0) → ⊥) → get_or t j 0 ≡ 0

-- ---- How it is found

-- The least second reading that occurs: with one clock only the saturated one does.
abbrev pub least_of : Bool → ℕ
least_of one = cond one top 0

abbrev pub least : Bytes → ℕ
least s = least_of (eqb (clocks s) 1)

-- A configuration of the automaton, with readings up to saturation.
pub record Stands (s : Bytes) (l x y : ℕ) : Type 0 where
  pub in_sheet : l < locations s
  pub first : x ≤ top
  pub second : y ≤ top
  pub used : least s ≤ y

-- An accepting location can still be reached.
abbrev pub alive : Bytes → ℕ → ℕ → ℕ → Bool
alive s l x y = (compile s).live (record { location = l; x = x; y = y })

-- Every configuration of the rows is live.
pub record Sound (s : Bytes) (t : List ℕ) : Type 0 where
  pub sized : length t ≡ all_rows
  pub live : (l x y : ℕ) → Stands s l x y → member t l x y ≡ true → alive s l x y ≡ true

-- A place of one of the transitions of a location.
pub record Place (s : Bytes) (l q : ℕ) : Type 0 where
  pub after : offset s l ≤ q
  pub inside : q < offset s l + size s l
  pub whole : (q - offset s l) % 7 ≡ 0

-- The location l has the configurations from which the transition leads into the rows.
abbrev pub Included : Bytes → List ℕ → ℕ → Transition → Type 0
Included s t l v = (x y : ℕ) → x ≤ top → least s ≤ y → y ≤ top → leads t v x y ≡ true → member t l x y ≡ true

-- The location l has the configurations from which a tick leads into its rows.
abbrev pub Ticked : Bytes → List ℕ → ℕ → Type 0
Ticked s t l = Closed t (least s) l

-- The set has exactly the configurations from which an accepting location can still be reached, and so with each the one a tick before it.
pub record LiveSet (s : Bytes) (t : List ℕ) : Type 0 where
  pub sized : length t ≡ all_rows
  pub fits : locations s ≤ max_count
  pub right : (l : ℕ) (r : List ℕ) → Standing s l r → member t l (get_or r 0 0) (get_or r 1 0) ≡ (compile s).live (located l r)
  pub ticked : (l : ℕ) → l < locations s → Ticked s t l

-- The rows u come from t: only those of the location l are others, and have grown, if b.
pub record Gained (s : Bytes) (t u : List ℕ) (l : ℕ) (b : Bool) : Type 0 where
  pub sound : Sound s u
  pub others : Others t u l
  pub kept : (x y : ℕ) → x ≤ top → least s ≤ y → y ≤ top → member t l x y ≡ true → member u l x y ≡ true
  pub larger : b ≡ true → slack u < slack t
  pub same : b ≡ false → u ≡ t

-- The transition of l at the place q need not be looked at again, unless it leads to l, which has gained.
abbrev pub Settled : Bytes → List ℕ → ℕ → Bool → ℕ → Type 0
Settled s u l b q = ((b ≡ true) × (byte s (q + 1) ≡ l)) ⊎ Included s u l (transition_at s q)

-- The transition at the place q is looked at if its target is in the set.
pub record Turn (s : Bytes) (t u : List ℕ) (l set q : ℕ) (b : Bool) : Type 0 where
  pub gained : Gained s t u l b
  pub settled : bit set (byte s (q + 1)) ≡ true → Settled s u l b q

-- Those at the places below p are.
pub record Turns (s : Bytes) (t u : List ℕ) (l set p : ℕ) (b : Bool) : Type 0 where
  pub gained : Gained s t u l b
  pub settled : (q : ℕ) → Place s l q → q < p → bit set (byte s (q + 1)) ≡ true → Settled s u l b q

-- If b, a transition of l whose target is in the set leads from saturated readings into the rows; if not, none at a place below p does.
pub record FromSaturated (s : Bytes) (t : List ℕ) (l set p : ℕ) (b : Bool) : Type 0 where
  pub found : b ≡ true → (q : ℕ) × Place s l q × (bit set (byte s (q + 1)) ≡ true) × (leads t (transition_at s q) top top ≡ true)
  pub none : b ≡ false → (q : ℕ) → Place s l q → q < p → bit set (byte s (q + 1)) ≡ true → leads t (transition_at s q) top top ≡ false

-- All transitions of l whose target is in the set are looked at, and what a tick takes into the rows of l is in them.
pub record Improved (s : Bytes) (t u : List ℕ) (l set : ℕ) (b : Bool) : Type 0 where
  pub gained : Gained s t u l b
  pub settled : (q : ℕ) → Place s l q → bit set (byte s (q + 1)) ≡ true → Settled s u l b q
  pub ticked : Ticked s u l

-- Accepting locations have every configuration.
abbrev pub Full : Bytes → List ℕ → Type 0
Full s t = (l x y : ℕ) → l < max_count → x ≤ top → least s ≤ y → y ≤ top → accepting s l ≡ true → member t l x y ≡ true

-- Only transitions whose target is in the set can still take a new configuration into the rows.
pub record Unsettled (s : Bytes) (t : List ℕ) (set : ℕ) : Type 0 where
  pub sound : Sound s t
  pub full : Full s t
  pub ticked : (l : ℕ) → l < locations s → Ticked s t l
  pub included : (l q : ℕ) → l < locations s → Place s l q → bit set (byte s (q + 1)) ≡ false → Included s t l (transition_at s q)

-- After a sweep over all locations.
pub record Swept (s : Bytes) (t u : List ℕ) (next : ℕ) : Type 0 where
  pub pending : Unsettled s u next
  pub grows : slack u ≤ slack t
  pub larger : (next ≡ 0 → ⊥) → slack u < slack t
