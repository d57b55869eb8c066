-- How many calls of five bytes there is room for.
-- Assumes nothing.
use mathlib.Core.Path.{◌≡◌, sym}
use mathlib.Core.List.{List}
use Prim.Native.Nat.{ℕ, suc, ◌+◌, ◌-◌, ◌*◌, ◌/◌, ◌≤◌, min, max}
use native.Mathlib.Omega.{arith}
use lib.ListN.{length}
use lib.Seq.{length-take-le}
use Rattle.std.specs.Counts.{IsPrefixLen}
use Rattle.drafting.specs.Scripts.{fitting}

module _ (size at : ℕ) where
  pub room_one : at + 5 ≤ size → (size - at) / 5 ≡ suc ((size - (at + 5)) / 5)
  room_one h = omega arith

  -- An entry's call is put at least once, and further as often as it is made and there is room.
  pub fitting_one : (times n : ℕ) → at + 5 ≤ size → n ≡ min (max times 1) ((size - at) / 5) → n ≡ suc (fitting (times - 1) size (at + 5))
  fitting_one times n h e = omega (arith, room_one h)

  -- The room after calls.
  pub room_after : (n end : ℕ) → at ≤ size → end ≡ at + 5 * fitting n size at → (size - end) / 5 ≡ (size - at) / 5 - n
  room_after n end h e = omega arith

  pub inside : (n end : ℕ) → at ≤ size → end ≡ at + 5 * fitting n size at → end ≤ size
  inside n end h e = omega arith

-- Sums with any number of calls: for `fitting` itself `omega` would try every case.
pub past : (a b n : ℕ) → a ≡ b + n → b ≤ a
past a b n h = omega arith

-- A place within a buffer counts bytes of it.
pub counted : (n : ℕ) (xs : List ℕ) → n ≤ length xs → IsPrefixLen n xs
counted n xs h = (h, sym (length-take-le n xs h))
