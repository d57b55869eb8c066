-- Two sheets and the joined one, worked out from document 02's words, apart from the definitions: numbers of locations, the order of rules and what a rule is made of show in it.
use Rattle.std.specs.Prelude.{[], ◌∷◌}
use Rattle.enforcement.specs.Automaton.{Bytes}

-- Two locations, both accepting; it begins at 1. At 0: command 1 leads to 1 up to 4, with a reset, command 0 stays from 2 to 9, command 1 stays from 5 on. At 1: command 0 stays, with a reset.
abbrev pub first : Bytes
first = 2 ∷ 1 ∷ 2 ∷ 1 ∷ 3 ∷ 0 ∷ 14 ∷ 0 ∷ 21 ∷ 0 ∷ 35 ∷ 0 ∷ 7 ∷ 0 ∷ 1 ∷ 1 ∷ 1 ∷ 0 ∷ 4 ∷ 0 ∷ 255 ∷ 0 ∷ 0 ∷ 0 ∷ 2 ∷ 9 ∷ 0 ∷ 255 ∷ 1 ∷ 0 ∷ 0 ∷ 5 ∷ 255 ∷ 0 ∷ 255 ∷ 0 ∷ 1 ∷ 1 ∷ 0 ∷ 255 ∷ 0 ∷ 255 ∷ []

-- Three locations, of which 1 is accepting; it begins at 2. At 0: command 0 leads to 2 up to 7, command 1 to 1 from 3 to 30, with a reset. At 2: command 1 leads to 0 up to 3 and stays from 4 on, with a reset, command 0 leads to 1 at 1, with a reset.
abbrev pub second : Bytes
second = 3 ∷ 1 ∷ 2 ∷ 2 ∷ 2 ∷ 0 ∷ 18 ∷ 0 ∷ 14 ∷ 0 ∷ 32 ∷ 0 ∷ 0 ∷ 0 ∷ 32 ∷ 0 ∷ 21 ∷ 0 ∷ 0 ∷ 2 ∷ 0 ∷ 0 ∷ 7 ∷ 0 ∷ 255 ∷ 1 ∷ 1 ∷ 1 ∷ 3 ∷ 30 ∷ 0 ∷ 255 ∷ 1 ∷ 0 ∷ 0 ∷ 0 ∷ 3 ∷ 0 ∷ 255 ∷ 1 ∷ 2 ∷ 1 ∷ 4 ∷ 255 ∷ 0 ∷ 255 ∷ 0 ∷ 1 ∷ 1 ∷ 1 ∷ 1 ∷ 0 ∷ 255 ∷ []

-- Six locations, two clocks; it begins at (1, 2), which is 5; (0, 1) and (1, 1) are accepting, which are 1 and 4. Then the pairs, and a line for each location that has rules: (0, 0), (0, 2), (1, 0), (1, 2).
abbrev pub both : Bytes
both =
    6 ∷ 2 ∷ 2 ∷ 5 ∷ 18 ∷ 0
    ∷ 30 ∷ 0 ∷ 21 ∷ 0 ∷ 51 ∷ 0 ∷ 0 ∷ 0 ∷ 51 ∷ 0 ∷ 35 ∷ 0 ∷ 86 ∷ 0 ∷ 7 ∷ 0 ∷ 93 ∷ 0 ∷ 0 ∷ 0 ∷ 93 ∷ 0 ∷ 7 ∷ 0
    ∷ 1 ∷ 4 ∷ 3 ∷ 0 ∷ 4 ∷ 3 ∷ 30 ∷ 0 ∷ 2 ∷ 0 ∷ 2 ∷ 9 ∷ 0 ∷ 7 ∷ 1 ∷ 1 ∷ 2 ∷ 5 ∷ 255 ∷ 3 ∷ 30
    ∷ 1 ∷ 3 ∷ 1 ∷ 0 ∷ 4 ∷ 0 ∷ 3 ∷ 1 ∷ 5 ∷ 3 ∷ 0 ∷ 4 ∷ 4 ∷ 255 ∷ 0 ∷ 1 ∷ 2 ∷ 2 ∷ 9 ∷ 1 ∷ 1 ∷ 1 ∷ 0 ∷ 0 ∷ 5 ∷ 255 ∷ 0 ∷ 3 ∷ 1 ∷ 2 ∷ 2 ∷ 5 ∷ 255 ∷ 4 ∷ 255
    ∷ 0 ∷ 5 ∷ 1 ∷ 0 ∷ 255 ∷ 0 ∷ 7
    ∷ 0 ∷ 4 ∷ 3 ∷ 0 ∷ 255 ∷ 1 ∷ 1
    ∷ []

-- One location without rules: with three commands, with two clocks, and with both.
abbrev pub three_commands : Bytes
three_commands = 1 ∷ 1 ∷ 3 ∷ 0 ∷ 0 ∷ 0 ∷ 10 ∷ 0 ∷ 0 ∷ 0 ∷ []

abbrev pub two_clocks : Bytes
two_clocks = 1 ∷ 2 ∷ 2 ∷ 0 ∷ 0 ∷ 0 ∷ 10 ∷ 0 ∷ 0 ∷ 0 ∷ []

abbrev pub three_and_two : Bytes
three_and_two = 1 ∷ 2 ∷ 3 ∷ 0 ∷ 0 ∷ 0 ∷ 10 ∷ 0 ∷ 0 ∷ 0 ∷ []
