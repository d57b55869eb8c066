-- The bytes of an automaton that is given in parts (document 01, "Bytes of a sheet").
use Rattle.std.specs.Prelude.{Bool, cond, List, [], ◌∷◌, ◌++◌, ℕ, ◌+◌, ◌*◌, ◌/◌, ◌%◌, length}
use Rattle.enforcement.specs.Automaton.{Bytes, Transition}

-- A location: whether it is accepting, and its transitions, in the sheet's order.
pub record Location : Type 0 where
  pub accepting : Bool
  pub transitions : List Transition

-- An automaton in parts: its clocks and actions, the initial location, and all locations, from 0 on.
pub record Parts : Type 0 where
  pub clocks : ℕ
  pub actions : ℕ
  pub initial : ℕ
  pub locations : List Location

-- Two bytes, low byte first, of a number that has no more.
abbrev pub word_bytes : ℕ → Bytes
word_bytes n = n % 256 ∷ n / 256 ∷ []

-- The accepting locations as a number, the first one's bit lowest.
unfoldable pub accepting_set : List Location → ℕ
accepting_set [] = 0
accepting_set (l ∷ ls) = cond l.accepting 1 0 + 2 * accepting_set ls

-- All transitions, location by location.
unfoldable pub transitions_in : List Location → List Transition
transitions_in [] = []
transitions_in (l ∷ ls) = l.transitions ++ transitions_in ls

-- The pairs of locations whose transitions begin at place e: for each, where they begin, and how many bytes they take.
unfoldable pub pairs_from : ℕ → List Location → Bytes
pairs_from e [] = []
pairs_from e (l ∷ ls) = word_bytes e ++ word_bytes (7 * length l.transitions) ++ pairs_from (e + 7 * length l.transitions) ls

-- The seven bytes of a transition.
abbrev pub transition_bytes : Transition → Bytes
transition_bytes t = t.action ∷ t.target ∷ t.resets ∷ t.low1 ∷ t.high1 ∷ t.low2 ∷ t.high2 ∷ []

unfoldable pub transitions_bytes : List Transition → Bytes
transitions_bytes [] = []
transitions_bytes (t ∷ ts) = transition_bytes t ++ transitions_bytes ts

-- The six bytes of the header.
abbrev pub header_bytes : Parts → Bytes
header_bytes a = length a.locations ∷ a.clocks ∷ a.actions ∷ a.initial ∷ word_bytes (accepting_set a.locations)

-- The header, a pair for each location, and the transitions.
abbrev pub encode : Parts → Bytes
encode a = header_bytes a ++ pairs_from (6 + 4 * length a.locations) a.locations ++ transitions_bytes (transitions_in a.locations)
