-- Laws of sets of locations.
-- Assumes nothing.
use mathlib.Core.Path.{◌≡◌, ap, ◌∙◌}
use mathlib.Core.Bool.{Bool, ◌||◌, or_comm}
use Prim.Native.Nat.{ℕ, ◌*◌, ◌%◌, ◌^◌, ◌<◌}
use native.Mathlib.Omega.{arith}
use native.Mathlib.Nat.{one-mul}
use lib.Dec.{eqb}
use lib.Pow.{shl_exact}
use lib.Bits.{bit_or}
use Rattle.enforcement.specs.Limits.{max_count}
use Rattle.enforcement.specs.Automaton.{bit}
use Rattle.enforcement.proofs.Bits.{bit_of_or, bit_power}
use Rattle.retimer.specs.Locations.{Added}

pub added : (n l : ℕ) → l < max_count → Added n l (bit_or n ((1 * 2 ^ l) % 2 ^ 16))
added n l h =
    let e : (1 * 2 ^ l) % 2 ^ 16 ≡ 2 ^ l = shl_exact 1 l 16 (omega arith) (omega arith) ∙ one-mul (2 ^ l) in
    rw e (record { bits = λ j. bit_of_or n (2 ^ l) j ∙ ap (λ (b : Bool). bit n j || b) (bit_power l j) ∙ or_comm (bit n j) (eqb j l) })
