-- Numbers in bytes, beside those of a sheet, and bytes at a place of a buffer.
use Rattle.std.specs.Prelude.{◌≡◌, ◌++◌, ℕ, ◌+◌, ◌*◌, length, take, drop}
use Rattle.enforcement.specs.Automaton.{Bytes, word}

-- Four bytes, low byte first.
abbrev pub double_word : Bytes → ℕ → ℕ
double_word s i = word s i + 65536 * word s (i + 2)

-- The bytes stand in the buffer from a place on, the rest is as before, and the place after them is answered.
pub record Wrote (before : Bytes) (at : ℕ) (part after : Bytes) (end : ℕ) : Type 0 where
  pub is : after ≡ take at before ++ part ++ drop (at + length part) before
  pub ends : end ≡ at + length part
