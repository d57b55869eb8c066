-- The first place of a text at which a test holds.
use Rattle.std.specs.Prelude.{Bool, cond, ◌&&◌, List, [], ◌∷◌, ℕ, zero, suc, leb, eqb, get_or}

-- From a place on; the text's end if there is none.
unfoldable pub first_from : (ℕ → Bool) → List ℕ → ℕ → ℕ
first_from p [] i = 0
first_from p (b ∷ s) zero = cond (p b) 0 (suc (first_from p s 0))
first_from p (b ∷ s) (suc i) = suc (first_from p s i)

abbrev pub is_mark : ℕ → ℕ → Bool
is_mark mark b = eqb b mark

-- The first mark.
abbrev pub find_from : List ℕ → ℕ → ℕ → ℕ
find_from s from mark = first_from (is_mark mark) s from

abbrev pub is_capital : ℕ → Bool
is_capital b = leb 65 b && leb b 90

-- The first capital letter, or 0.
abbrev pub capital_of : List ℕ → ℕ
capital_of s = get_or s (first_from is_capital s 0) 0
