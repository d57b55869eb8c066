-- Decimal numbers in a text.
use Rattle.std.specs.Prelude.{Bool, cond, not, ◌&&◌, List, [], ◌∷◌, ℕ, ◌+◌, ◌-◌, ◌*◌, leb, ltb, drop}
use Rattle.drafting.specs.declared.numeral.Numeral.{Numeral}
use Rattle.drafting.specs.Places.{first_from}

abbrev pub is_digit : ℕ → Bool
is_digit b = leb 48 b && leb b 57

abbrev pub is_other : ℕ → Bool
is_other b = not (is_digit b)

abbrev pub first_digit : List ℕ → ℕ → ℕ
first_digit s from = first_from is_digit s from

-- A number with a digit after it; a digit that would make it too long is passed over.
abbrev pub with_digit : ℕ → ℕ → ℕ
with_digit n b = cond (ltb n 1000000000000) (n * 10 + (b - 48)) n

-- A number with the digits after it that a text begins with.
unfoldable pub value_on : ℕ → List ℕ → ℕ
value_on n [] = n
value_on n (b ∷ s) = cond (is_digit b) (value_on (with_digit n b) s) n

-- The number whose digits begin at a place, and the place after them.
unfoldable pub numeral_at : List ℕ → ℕ → Numeral
numeral_at s from = record { value = value_on 0 (drop from s); end = first_from is_other s from }
