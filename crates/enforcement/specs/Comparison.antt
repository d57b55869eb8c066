-- The bound test by plain cases (request F-4 of document 02), in the comparisons of document 002.
use Rattle.std.specs.Prelude.{◌≡◌, Bool, true, cond, ◌&&◌, ◌↔◌, ℕ, ◌<◌, leb, eqb}
use Rattle.enforcement.specs.Automaton.{Lies}

-- The cases, each named for what is compared.
pub data Comparison : Type 0 where
  at_least exactly at_most between : Comparison

-- When a case fits: no upper bound; low equal to high; low zero; the rest fits always.
unfoldable pub Suits : Comparison → ℕ → ℕ → Type 0
Suits at_least low high = high ≡ 255
Suits exactly low high = low ≡ high
Suits at_most low high = low ≡ 0
Suits between low high = Unit {0}

-- The order in which the cases are looked at.
abbrev pub rank : Comparison → ℕ
rank at_least = 0
rank exactly = 1
rank at_most = 2
rank between = 3

-- Bounds fall in a case: it is the first that fits.
pub record Falls (c : Comparison) (low high : ℕ) : Type 0 where
  pub suits : Suits c low high
  pub none_earlier : (d : Comparison) → rank d < rank c → Suits d low high → ⊥

-- The case that is picked.
abbrev pub pick : ℕ → ℕ → Comparison
pick low high = cond (eqb high 255) at_least (cond (eqb low high) exactly (cond (eqb low 0) at_most between))

-- What a case says of a reading.
abbrev pub says : Comparison → ℕ → ℕ → ℕ → Bool
says at_least low high x = leb low x
says exactly low high x = eqb x low
says at_most low high x = leb x high
says between low high x = leb low x && leb x high

-- ---- What is promised

-- Of all bounds that fall in the case and every reading, it says yes exactly when the reading lies from low to high.
abbrev pub CaseRight : Comparison → Type 0
CaseRight c = (low high x : ℕ) → Falls c low high → (says c low high x ≡ true) ↔ Lies low high x

-- Any bounds fall in the case that is picked, and in no other.
pub record PickRight (low high : ℕ) : Type 0 where
  pub falls : Falls (pick low high) low high
  pub only : (c : Comparison) → Falls c low high → c ≡ pick low high

-- Each case occurs, and where several fit it is the first: no upper bound, low equal to high, low zero, and the rest.
pub record OrderRight : Type 0 where
  pub unbounded_and_equal : Falls at_least 255 255
  pub unbounded_and_zero : Falls at_least 0 255
  pub equal_and_zero : Falls exactly 0 0
  pub zero_alone : Falls at_most 0 1
  pub the_rest : Falls between 1 2
