-- The course sheets A to E of document 01.
use Rattle.std.specs.Prelude.{[], ◌∷◌}
use Rattle.enforcement.specs.Automaton.{Bytes}

-- Any 0 first; after the first 1, each 1 comes at least 5 ticks after the one before it.
abbrev pub sheet_a : Bytes
sheet_a = 2 ∷ 1 ∷ 2 ∷ 0 ∷ 3 ∷ 0 ∷ 14 ∷ 0 ∷ 14 ∷ 0 ∷ 28 ∷ 0 ∷ 14 ∷ 0 ∷ 0 ∷ 0 ∷ 0 ∷ 0 ∷ 255 ∷ 0 ∷ 255 ∷ 1 ∷ 1 ∷ 1 ∷ 0 ∷ 255 ∷ 0 ∷ 255 ∷ 0 ∷ 1 ∷ 0 ∷ 0 ∷ 255 ∷ 0 ∷ 255 ∷ 1 ∷ 1 ∷ 1 ∷ 5 ∷ 255 ∷ 0 ∷ 255 ∷ []

-- Command 0, then command 1 from 10 to 15 ticks after it.
abbrev pub sheet_b : Bytes
sheet_b = 3 ∷ 1 ∷ 2 ∷ 0 ∷ 4 ∷ 0 ∷ 18 ∷ 0 ∷ 7 ∷ 0 ∷ 25 ∷ 0 ∷ 7 ∷ 0 ∷ 32 ∷ 0 ∷ 0 ∷ 0 ∷ 0 ∷ 1 ∷ 1 ∷ 0 ∷ 255 ∷ 0 ∷ 255 ∷ 1 ∷ 2 ∷ 0 ∷ 10 ∷ 15 ∷ 0 ∷ 255 ∷ []

-- Command 0 up to reading 8, then command 1 up to reading 20.
abbrev pub sheet_c : Bytes
sheet_c = 3 ∷ 1 ∷ 2 ∷ 0 ∷ 4 ∷ 0 ∷ 18 ∷ 0 ∷ 7 ∷ 0 ∷ 25 ∷ 0 ∷ 7 ∷ 0 ∷ 32 ∷ 0 ∷ 0 ∷ 0 ∷ 0 ∷ 1 ∷ 0 ∷ 0 ∷ 8 ∷ 0 ∷ 255 ∷ 1 ∷ 2 ∷ 0 ∷ 0 ∷ 20 ∷ 0 ∷ 255 ∷ []

-- Command 0, then command 1 from reading 10 on.
abbrev pub sheet_d : Bytes
sheet_d = 3 ∷ 1 ∷ 2 ∷ 0 ∷ 4 ∷ 0 ∷ 18 ∷ 0 ∷ 7 ∷ 0 ∷ 25 ∷ 0 ∷ 7 ∷ 0 ∷ 32 ∷ 0 ∷ 0 ∷ 0 ∷ 0 ∷ 1 ∷ 0 ∷ 0 ∷ 255 ∷ 0 ∷ 255 ∷ 1 ∷ 2 ∷ 0 ∷ 10 ∷ 255 ∷ 0 ∷ 255 ∷ []

-- Any number of commands 0, then command 1.
abbrev pub sheet_e : Bytes
sheet_e = 2 ∷ 1 ∷ 2 ∷ 0 ∷ 2 ∷ 0 ∷ 14 ∷ 0 ∷ 14 ∷ 0 ∷ 28 ∷ 0 ∷ 0 ∷ 0 ∷ 0 ∷ 0 ∷ 0 ∷ 0 ∷ 255 ∷ 0 ∷ 255 ∷ 1 ∷ 1 ∷ 0 ∷ 0 ∷ 255 ∷ 0 ∷ 255 ∷ []
