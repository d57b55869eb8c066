-- The bytes of a text's numbers, as a loop puts them.
-- Assumes nothing.
use mathlib.Core.Path.{◌≡◌, refl, sym, ap, ◌∙◌}
use mathlib.Core.Bool.{Bool, cond}
use mathlib.Core.List.{List, [], ◌∷◌}
use Prim.Native.Nat.{ℕ, zero, suc, ◌%◌, ◌≤◌, ◌<◌}
use lib.ListN.{length}
use borrow.Author.Tests.{lt-ltb, le-ltb}
use Rattle.drafting.specs.declared.numeral.Numeral.{Numeral}
use Rattle.drafting.specs.Numerals.{first_digit, numeral_at}
use Rattle.drafting.specs.Scripts.{bytes_from}

byte_first : (room more : ℕ) (s : List ℕ) (i : ℕ) → room ≡ suc more → i < length s → bytes_from room s i ≡ (numeral_at s i).value % 256 ∷ bytes_from more s (first_digit s (numeral_at s i).end)
unfolding bytes_from
byte_first room more s i e h = ap (λ (k : ℕ). bytes_from k s i) e ∙ ap (λ (t : Bool). cond t ((numeral_at s i).value % 256 ∷ bytes_from more s (first_digit s (numeral_at s i).end)) []) (lt-ltb i (length s) h)

-- The same from what the loop's turn has read.
pub byte_next : (room more : ℕ) (s : List ℕ) (i v j : ℕ) (next : Numeral) → room ≡ suc more → i < length s → next ≡ numeral_at s i → v ≡ next.value % 256 → j ≡ first_digit s next.end → bytes_from room s i ≡ v ∷ bytes_from more s j
byte_next room more s i v j next e h p q r =
    let value = q ∙ ap (λ (n : Numeral). n.value % 256) p in
    let place = r ∙ ap (λ (n : Numeral). first_digit s n.end) p in
    byte_first room more s i e h ∙ sym (λ t. value t ∷ bytes_from more s (place t))

pub no_room : (room : ℕ) (s : List ℕ) (i : ℕ) → room ≡ 0 → bytes_from room s i ≡ []
unfolding bytes_from
no_room room s i e = ap (λ (k : ℕ). bytes_from k s i) e

pub no_byte : (room : ℕ) (s : List ℕ) (i : ℕ) → length s ≤ i → bytes_from room s i ≡ []
unfolding bytes_from
no_byte zero s i h = refl
no_byte (suc room) s i h = ap (λ (t : Bool). cond t ((numeral_at s i).value % 256 ∷ bytes_from room s (first_digit s (numeral_at s i).end)) []) (le-ltb i (length s) h)
