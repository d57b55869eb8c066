-- Text as lists of ASCII codes.
use Rattle.std.specs.Prelude.{cond, List, [], ◌∷◌, ◌++◌, ℕ, zero, suc, ◌+◌, ◌/◌, ◌%◌, ltb}
use Prim.Native.Char.{code}
use Prim.Native.String.{String, [] as none, ◌∷◌ as ◌then◌}

-- The codes of a text.
abbrev pub ascii : String → List ℕ
ascii none = []
ascii (c then s) = code c ∷ ascii s

-- The digits of a number, where there are at most f.
unfoldable pub digits_of : ℕ → ℕ → List ℕ
digits_of zero n = []
digits_of (suc f) n = cond (ltb n 10) [] (digits_of f (n / 10)) ++ ((48 + n % 10) ∷ [])

-- A number of 64 bits in decimal digits.
unfoldable pub numeral : ℕ → List ℕ
numeral n = digits_of 20 n

-- A word and a number after it.
abbrev pub figure : String → ℕ → List ℕ
figure w n = ascii w ++ numeral n
