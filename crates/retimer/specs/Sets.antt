-- Sets of configurations as rows of bits, and what waiting, a transition, and an action after any wait make of them.
-- A set has h rows for each location. Row i of h stands for the second reading width - h + i: all of them with two clocks, only the saturated one with one clock.
use Rattle.std.specs.Prelude.{◌≡◌, Bool, true, cond, List, ◌⊎◌, ◌↔◌, ℕ, ◌+◌, ◌*◌, ◌^◌, ◌≤◌, ◌<◌, min, ◌-◌, length, get_or, eqb}
use Rattle.std.proofs.Math.Option.{some}
use Rattle.std.specs.Int.Bits.{bit_and, bit_or}
use Rattle.enforcement.specs.Automaton.{Bytes, Transition, transition_at, transitions, bit, clocks, locations, within, enabled}
use Rattle.enforcement.specs.Loading.{WellFormed, Fits}
use Rattle.enforcement.specs.TimedWord.{Configuration, step}
use Rattle.enforcement.specs.Model.{top, width, advance}
use Rattle.retimer.specs.Steps.{One}
use Rattle.retimer.specs.Row.{In}
use Rattle.retimer.specs.Locations.{InSheet}

-- ---- Membership

-- The second reading that row i of h rows stands for.
abbrev pub second : ℕ → ℕ → ℕ
second h i = (width - h) + i

-- How many rows a location has.
abbrev pub height : Bytes → ℕ
height s = cond (eqb (clocks s) 1) 1 width

-- The configuration at location l, the first reading x and row i of h.
abbrev pub at : ℕ → ℕ → ℕ → ℕ → Configuration
at h l x i = record { location = l; x = x; y = second h i }

-- The set has it.
abbrev pub has : ℕ → List ℕ → ℕ → ℕ → ℕ → Bool
has h set l x i = bit (get_or set (l * h + i) 0) x

abbrev pub Marked : ℕ → List ℕ → ℕ → ℕ → ℕ → Type 0
Marked h set l x i = has h set l x i ≡ true

-- The set has a configuration: the row of its second reading has its first reading.
pub record Contains (s : Bytes) (set : List ℕ) (q : Configuration) : Type 0 where
  pub row : ℕ
  pub inside : row < height s
  pub reads : q.y ≡ second (height s) row
  pub holds : Marked (height s) set q.location q.x row

-- ---- A location's rows

-- Every row has readings up to top only.
abbrev pub Narrow : List ℕ → Type 0
Narrow rows = (i : ℕ) → get_or rows i 0 < 2 ^ width

-- The reading x is in row i.
abbrev pub Member : List ℕ → ℕ → ℕ → Type 0
Member rows x i = In x (get_or rows i 0)

-- Some wait leads from a member to (x, i).
pub record Later (rows : List ℕ) (x i : ℕ) : Type 0 where
  pub from_x : ℕ
  pub from_i : ℕ
  pub ticks : ℕ
  pub inside : from_i < length rows
  pub member : Member rows from_x from_i
  pub x_is : x ≡ min (from_x + ticks) top
  pub i_is : i ≡ min (from_i + ticks) (length rows - 1)

-- The rows after any wait.
pub record Waited (rows out : List ℕ) : Type 0 where
  pub sized : length out ≡ length rows
  pub narrow : Narrow out
  pub right : (x i : ℕ) → i < length rows → Member out x i ↔ Later rows x i

-- ---- A transition

-- v has the readings of the rows from a up to b that are in cols.
pub record United (src : List ℕ) (cols a b v : ℕ) : Type 0 where
  pub small : v < 2 ^ width
  pub right : (x : ℕ) → In x v ↔ ((i : ℕ) × (a ≤ i) × (i < b) × Member src x i × In x cols)

-- What is asked for rows from a up to b of src to be added to those of out.
pub record Adds (src : List ℕ) (cols a b : ℕ) (out : List ℕ) : Type 0 where
  pub ordered : a ≤ b
  pub source : b ≤ length src
  pub target : b ≤ length out
  pub small : cols < 2 ^ width
  pub narrow : Narrow out

-- The rows from a up to b have gained what Q says, the others nothing.
pub record Joined (out new : List ℕ) (Q : ℕ → ℕ → Type 0) (a b : ℕ) : Type 0 where
  pub sized : length new ≡ length out
  pub narrow : Narrow new
  pub right : (x i : ℕ) → Member new x i ↔ (Member out x i ⊎ ((a ≤ i) × (i < b) × Q x i))

-- The rows from a up to b have gained what P says of their readings in cols, the others nothing.
pub record Gains (src out new : List ℕ) (cols a b : ℕ) (P : ℕ → ℕ → Type 0) : Type 0 where
  pub sized : length new ≡ length out
  pub gained : (i : ℕ) → a ≤ i → i < b → (v : ℕ) × P (bit_and (get_or src i 0) cols) v × (get_or new i 0 ≡ bit_or (get_or out i 0) v)
  pub rest : (i : ℕ) → (i < a) ⊎ (b ≤ i) → get_or new i 0 ≡ get_or out i 0

-- The readings of a row that are in cols are kept.
abbrev pub Kept : List ℕ → ℕ → ℕ → ℕ → Type 0
Kept src cols x i = Member src x i × In x cols

-- They become 0.
abbrev pub Reset : List ℕ → ℕ → ℕ → ℕ → Type 0
Reset src cols x i = (x ≡ 0) × ((z : ℕ) × Member src z i × In z cols)

-- v has the readings of the first clock that a transition allows.
pub record Columns (u : Transition) (v : ℕ) : Type 0 where
  pub small : v < 2 ^ width
  pub right : (x : ℕ) → In x v ↔ ((within u.low1 u.high1 x ≡ true) × (x ≤ top))

-- What is asked for a transition to be taken from the rows of its location into those of its target.
pub record Fires (s : Bytes) (p : ℕ) (src out : List ℕ) : Type 0 where
  pub inside : p + 7 ≤ length s
  pub fits : Fits s (transition_at s p)
  pub source : length src ≡ height s
  pub readings : Narrow src
  pub target : length out ≡ height s
  pub narrow : Narrow out

-- A transition leads from a member to (x, i).
pub record Led (u : Transition) (src : List ℕ) (x i : ℕ) : Type 0 where
  pub from_x : ℕ
  pub from_i : ℕ
  pub inside : from_i < length src
  pub member : Member src from_x from_i
  pub on : enabled u from_x (second (length src) from_i) ≡ true
  pub x_is : x ≡ cond (bit u.resets 0) 0 from_x
  pub i_is : i ≡ cond (bit u.resets 1) 0 from_i

-- The target's rows have gained what the transition leads to; b says whether it leads anywhere.
pub record Fired (u : Transition) (src out new : List ℕ) (b : Bool) : Type 0 where
  pub sized : length new ≡ length out
  pub narrow : Narrow new
  pub right : (x i : ℕ) → Member new x i ↔ (Member out x i ⊎ Led u src x i)
  pub some : (b ≡ true) ↔ ((x : ℕ) × (i : ℕ) × Led u src x i)

-- ---- Sets

-- Rows for every location of the automaton.
pub record Whole (s : Bytes) (set : List ℕ) : Type 0 where
  pub sized : length set ≡ locations s * height s
  pub narrow : Narrow set

-- The first n rows are empty now.
pub record Cleared (set new : List ℕ) (n : ℕ) : Type 0 where
  pub sized : length new ≡ length set
  pub empty : (j : ℕ) → j < n → get_or new j 0 ≡ 0

-- ---- From one location, whose rows are waited

-- A transition for the action leads from a member of the rows to row i of location t.
abbrev pub Leads : ℕ → List ℕ → ℕ → ℕ → ℕ → Transition → Type 0
Leads c src t x i u = (u.action ≡ c) × (t ≡ u.target) × Led u src x i

-- What is asked of the source's rows and of the next set.
pub record Plays (s : Bytes) (src next : List ℕ) : Type 0 where
  pub loads : WellFormed s
  pub source : length src ≡ height s
  pub readings : Narrow src
  pub target : Whole s next

-- The set has gained what one transition leads to; v has the target's place if that is anything.
pub record FiredInto (s : Bytes) (u : Transition) (src next new : List ℕ) (v : ℕ) : Type 0 where
  pub whole : Whole s new
  pub right : (t x i : ℕ) → i < height s → Marked (height s) new t x i ↔ (Marked (height s) next t x i ⊎ ((t ≡ u.target) × Led u src x i))
  pub some : (t : ℕ) → In t v ↔ ((t ≡ u.target) × ((x : ℕ) × (i : ℕ) × Led u src x i))

-- It has gained what the action leads to from the rows of location l; v has the places of the targets.
pub record PlayedAt (s : Bytes) (c l : ℕ) (src next new : List ℕ) (v : ℕ) : Type 0 where
  pub whole : Whole s new
  pub right : (t x i : ℕ) → i < height s → Marked (height s) new t x i ↔ (Marked (height s) next t x i ⊎ One (Leads c src t x i) (transitions s l))
  pub some : (t : ℕ) → In t v ↔ ((x : ℕ) × (i : ℕ) × One (Leads c src t x i) (transitions s l))

-- ---- From sets

-- After some wait a member at location l is as Q says.
pub record Becomes (s : Bytes) (set : List ℕ) (l : ℕ) (Q : Configuration → Type 0) : Type 0 where
  pub from_x : ℕ
  pub from_i : ℕ
  pub ticks : ℕ
  pub inside : from_i < height s
  pub member : Marked (height s) set l from_x from_i
  pub good : Q (advance ticks (at (height s) l from_x from_i))

-- After some wait the action leads from a member at location l to row i of location t.
abbrev pub Moves : Bytes → ℕ → List ℕ → ℕ → ℕ → ℕ → ℕ → Type 0
Moves s c set l t x i = Becomes s set l (λ (p : Configuration). step s c p ≡ some (at (height s) t x i))

-- After some wait a member at location l is at row i.
abbrev pub LaterAt : Bytes → List ℕ → ℕ → ℕ → ℕ → Type 0
LaterAt s set l x i = Becomes s set l (λ (p : Configuration). p ≡ at (height s) l x i)

-- The next set has gained what the action leads to from the members at location l. Of the set, the rows of l are waited and the others stay as they were.
pub record PlayedFrom (s : Bytes) (c l : ℕ) (set set' next new : List ℕ) (v : ℕ) : Type 0 where
  pub source : Whole s set'
  pub waited : (x i : ℕ) → i < height s → Marked (height s) set' l x i ↔ LaterAt s set l x i
  pub others : (m i : ℕ) → i < height s → (m ≡ l → ⊥) → get_or set' (m * height s + i) 0 ≡ get_or set (m * height s + i) 0
  pub whole : Whole s new
  pub right : (t x i : ℕ) → i < height s → Marked (height s) new t x i ↔ (Marked (height s) next t x i ⊎ Moves s c set l t x i)
  pub some : (t : ℕ) → In t v ↔ ((x : ℕ) × (i : ℕ) × (i < height s) × Moves s c set l t x i)

-- The set has just what the action leads to from the members at the first n locations; v has their places.
pub record PlayedBelow (s : Bytes) (c : ℕ) (set : List ℕ) (n : ℕ) (new : List ℕ) (v : ℕ) : Type 0 where
  pub whole : Whole s new
  pub right : (t x i : ℕ) → i < height s → Marked (height s) new t x i ↔ ((l : ℕ) × (l < n) × Moves s c set l t x i)
  pub some : (t : ℕ) → In t v ↔ ((x : ℕ) × (i : ℕ) × (i < height s) × (l : ℕ) × (l < n) × Moves s c set l t x i)

-- The places have every location of which the set has a member.
abbrev pub Covers : Bytes → ℕ → List ℕ → Type 0
Covers s places set = (l x i : ℕ) → i < height s → Marked (height s) set l x i → In l places

-- ---- By membership alone

-- The set has members at just the places, which are locations of the automaton.
pub record Reached (s : Bytes) (set : List ℕ) (places : ℕ) : Type 0 where
  pub whole : Whole s set
  pub known : InSheet s places
  pub members : (l : ℕ) → In l places ↔ ((q : Configuration) × (q.location ≡ l) × Contains s set q)

-- After some wait the action leads from a member to the configuration.
pub record Moved (s : Bytes) (c : ℕ) (set : List ℕ) (q : Configuration) : Type 0 where
  pub from : Configuration
  pub member : Contains s set from
  pub ticks : ℕ
  pub steps : step s c (advance ticks from) ≡ some q

-- The set has just what the action leads to, after any wait, from the members of another.
pub record Played (s : Bytes) (c : ℕ) (set new : List ℕ) (places : ℕ) : Type 0 where
  pub reached : Reached s new places
  pub right : (q : Configuration) → Contains s new q ↔ Moved s c set q

-- The set has just what the members of another become after any wait, at the same places.
pub record Elapsed (s : Bytes) (set new : List ℕ) (places : ℕ) : Type 0 where
  pub reached : Reached s new places
  pub right : (q : Configuration) → Contains s new q ↔ ((p : Configuration) × (n : ℕ) × Contains s set p × (q ≡ advance n p))

-- A set without members.
pub record Empty (s : Bytes) (set : List ℕ) : Type 0 where
  pub sized : length set ≡ locations s * height s
  pub empty : (j : ℕ) → get_or set j 0 ≡ 0

-- The set of one configuration.
pub record Single (s : Bytes) (q : Configuration) (set : List ℕ) (places : ℕ) : Type 0 where
  pub reached : Reached s set places
  pub only : (p : Configuration) → Contains s set p ↔ (p ≡ q)
