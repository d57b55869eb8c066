-- The header of the joined sheet.
-- Assumes nothing.
use mathlib.Core.Path.{◌≡◌, sym, ap, ap₂}
use mathlib.Core.List.{[], ◌∷◌}
use Prim.Native.Nat.{ℕ, ◌+◌, ◌*◌, ◌/◌, ◌%◌, ◌<◌}
use native.Mathlib.Omega.{arith}
use lib.ListN.{get_or}
use Rattle.std.specs.Int.{w16, to_le_bytes}
use Rattle.enforcement.specs.Limits.{max_count}
use Rattle.enforcement.specs.Automaton.{Bytes, locations, clocks, actions, initial}
use Rattle.enforcement.proofs.Loading.{initial_fits}
use Rattle.product.specs.Encoding.{word_bytes, accepting_set, header_bytes}
use Rattle.product.specs.Product.{all_locations, product, Joinable}
use Rattle.product.proofs.Pairing.{pair_below}
use Rattle.product.proofs.Reading.{length_locations}

-- A number of two bytes is its two bytes, low byte first.
pub word_is : (n : ℕ) → n < 65536 → to_le_bytes w16 n ≡ word_bytes n
word_is n h = let e : n / 256 % 256 ≡ n / 256 = omega arith in ap (λ (k : ℕ). n % 256 ∷ k ∷ []) e

-- The initial location is one of the product's.
pub initial_below : {s u : Bytes} → Joinable s u → initial s * locations u + initial u < max_count
initial_below {s} {u} j = omega (arith, j.locations_fit, pair_below (locations s) (locations u) (initial s) (initial u) (initial_fits s j.first) (initial_fits u j.second))

pub header_is : (s u w : Bytes) → w ≡ word_bytes (accepting_set (all_locations s u))
    → ◌≡◌ {A = Bytes} ((locations s * locations u) ∷ (clocks s + clocks u) ∷ actions s ∷ (initial s * locations u + initial u) ∷ get_or w 0 0 ∷ get_or w 1 0 ∷ []) (header_bytes (product s u))
header_is s u w e = ap₂ (λ (n : ℕ) (v : Bytes). n ∷ (clocks s + clocks u) ∷ actions s ∷ (initial s * locations u + initial u) ∷ get_or v 0 0 ∷ get_or v 1 0 ∷ []) (sym (length_locations s u (locations s * locations u) 0)) e
