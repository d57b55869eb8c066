-- The timed automaton that a sheet's bytes encode (document 01, "Bytes of a sheet").
-- The accessors say something of bytes that no load accepts too; nothing rests on that.
use Rattle.std.specs.Prelude.{◌≡◌, Bool, true, false, ◌&&◌, ◌||◌, List, [], ◌∷◌, ◌++◌, ◌⊎◌, ℕ, zero, suc, ◌+◌, ◌*◌, ◌/◌, ◌%◌, ◌^◌, ◌≤◌, leb, ltb, eqb, get_or}

abbrev pub Bytes : Type 0
Bytes = List ℕ

-- A timed automaton (the sheet): its bytes, and the date at which its clocks read 0.
pub record Automaton : Type 0 where
  pub bytes : Bytes
  pub loaded : ℕ

-- The automaton of a sheet that is loaded at a date.
abbrev pub automaton : Bytes → ℕ → Automaton
automaton s d = record { bytes = s; loaded = d }

abbrev pub byte : Bytes → ℕ → ℕ
byte s i = get_or s i 0

-- Two bytes, low byte first.
abbrev pub word : Bytes → ℕ → ℕ
word s i = byte s i + 256 * byte s (i + 1)

abbrev pub locations : Bytes → ℕ
locations s = byte s 0

abbrev pub clocks : Bytes → ℕ
clocks s = byte s 1

-- How many actions (commands) there are.
abbrev pub actions : Bytes → ℕ
actions s = byte s 2

abbrev pub initial : Bytes → ℕ
initial s = byte s 3

abbrev pub bit : ℕ → ℕ → Bool
bit n i = eqb ((n / (2 ^ i)) % 2) 1

abbrev pub accepting : Bytes → ℕ → Bool
accepting s l = bit (word s 4) l

-- The pair that places the transitions of a location.
abbrev pub offset : Bytes → ℕ → ℕ
offset s l = word s (6 + 4 * l)

abbrev pub size : Bytes → ℕ → ℕ
size s l = word s (8 + 4 * l)

-- A transition (a rule): its action, target location, reset set, and the guard's bounds for each clock.
pub record Transition : Type 0 where
  pub action : ℕ
  pub target : ℕ
  pub resets : ℕ
  pub low1 : ℕ
  pub high1 : ℕ
  pub low2 : ℕ
  pub high2 : ℕ

-- The transition whose seven bytes start at a place.
abbrev pub transition_at : Bytes → ℕ → Transition
transition_at s p = record { action = byte s p; target = byte s (p + 1); resets = byte s (p + 2); low1 = byte s (p + 3); high1 = byte s (p + 4); low2 = byte s (p + 5); high2 = byte s (p + 6) }

abbrev pub transitions_from : Bytes → ℕ → ℕ → List Transition
transitions_from s zero p = []
transitions_from s (suc n) p = transition_at s p ∷ transitions_from s n (p + 7)

-- The transitions of a location, in the sheet's order; none of a location that the sheet does not have.
unfoldable pub transitions : Bytes → ℕ → List Transition
transitions s l = elim (ltb l (locations s)) [ true ↦ transitions_from s (size s l / 7) (offset s l) | false ↦ [] ]

-- The transitions of n locations from l on.
unfoldable pub transitions_over : Bytes → ℕ → ℕ → List Transition
transitions_over s zero l = []
transitions_over s (suc n) l = transitions s l ++ transitions_over s n (suc l)

-- All transitions, in the sheet's order.
abbrev pub all_transitions : Bytes → List Transition
all_transitions s = transitions_over s (locations s) 0

-- A reading lies from low to high, both ends included; the high 255 is no upper bound.
abbrev pub Lies : ℕ → ℕ → ℕ → Type 0
Lies low high x = (low ≤ x) × ((high ≡ 255) ⊎ (x ≤ high))

-- The test of that, of any numbers (`within_right`): definitions are executed, and this decides there.
abbrev pub within : ℕ → ℕ → ℕ → Bool
within low high x = leb low x && (eqb high 255 || leb x high)

-- A transition is enabled (a rule applies) when every reading lies within its bounds.
abbrev pub enabled : Transition → ℕ → ℕ → Bool
enabled t x y = within t.low1 t.high1 x && within t.low2 t.high2 y
