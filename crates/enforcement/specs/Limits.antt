-- The limits of the box (document 01, and requests F-2 and F-7 of document 02): each of the six numbers stands here once.
use Rattle.std.specs.Prelude.{ℕ, ◌+◌, ◌*◌}

-- The most locations, the most actions, and the most pending actions (the held list).
abbrev pub max_count : ℕ
max_count = 16

-- The largest bound of a guard.
abbrev pub max_bound : ℕ
max_bound = 40

-- The most scheduled events that have not been played.
abbrev pub max_scheduled : ℕ
max_scheduled = 32

-- The most transitions of an automaton.
abbrev pub max_transitions : ℕ
max_transitions = 64

-- The last date.
abbrev pub max_date : ℕ
max_date = 1_000_000_000

-- The most offers that get a number.
abbrev pub max_numbered : ℕ
max_numbered = 1_000_000

-- The bytes of the largest automaton: its header, a pair for each location, and its transitions.
abbrev pub max_size : ℕ
max_size = 6 + 4 * max_count + 7 * max_transitions
