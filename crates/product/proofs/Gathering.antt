-- The accepting locations of the product, gathered from the last one on.
-- Assumes nothing.
use mathlib.Core.Path.{◌≡◌, sym, ap, ap₂, ◌∙◌}
use mathlib.Core.Bool.{Bool, true, false, cond}
use Prim.Native.Nat.{ℕ, suc, ◌+◌, ◌-◌, ◌*◌, ◌^◌, ◌≤◌, ◌<◌}
use native.Mathlib.Omega.{arith}
use native.Mathlib.Nat.{pow-suc}
use Rattle.enforcement.specs.Limits.{max_count}
use Rattle.enforcement.specs.Automaton.{Bytes, locations}
use Rattle.product.specs.Encoding.{accepting_set}
use Rattle.product.specs.Product.{location_at, locations_from}
use Rattle.product.proofs.RowLaws.{locations_next, locations_none}

-- The locations from l on, of m.
pub record Gathered (s u : Bytes) (m set l : ℕ) : Type 0 where
  pub count_is : m ≡ locations s * locations u
  pub small : m ≤ max_count
  pub before : l ≤ m
  pub is : set ≡ accepting_set (locations_from s u (m - l) l)
  pub below : set < 2 ^ (m - l)

pub gathered_none : (s u : Bytes) (m : ℕ) → m ≡ locations s * locations u → m ≤ max_count → Gathered s u m 0 m
unfolding accepting_set
gathered_none s u m e h =
    let z : m - m ≡ 0 = omega arith in
    record { count_is = e; small = h; before = omega arith; is = sym (ap accepting_set (locations_none s u m m (omega arith))); below = rw z (omega arith) }

module _ {s u : Bytes} {m set l : ℕ} (g : Gathered s u m set l) where
  -- One more, at l - 1.
  module _ (some : 0 < l) where
    gathered_next : (b : Bool) → (location_at s u (l - 1)).accepting ≡ b → accepting_set (locations_from s u (m - (l - 1)) (l - 1)) ≡ cond b 1 0 + 2 * set
    unfolding accepting_set
    gathered_next b is-accepting =
        let e : l - 1 + 1 ≡ l = omega arith in
        ap accepting_set (locations_next s u m (l - 1) (omega (arith, g.before)))
        ∙ ap₂ (λ (x : Bool) (k : ℕ). cond x 1 0 + 2 * k) is-accepting (ap (λ (i : ℕ). accepting_set (locations_from s u (m - i) i)) e ∙ sym g.is)

    gathered_one : (v : ℕ) → v ≡ accepting_set (locations_from s u (m - (l - 1)) (l - 1)) → v ≤ 1 + 2 * set → Gathered s u m v (l - 1)
    gathered_one v e h =
        let z : m - (l - 1) ≡ suc (m - l) = omega (arith, g.before, some) in
        record { count_is = g.count_is; small = g.small; before = omega (arith, g.before); is = e; below = rw (z, pow-suc) (omega (arith, h, g.below)) }

    pub gathered_with : (location_at s u (l - 1)).accepting ≡ true → Gathered s u m (set * 2 + 1) (l - 1)
    gathered_with e = gathered_one (set * 2 + 1) (omega (arith, gathered_next true e)) (omega arith)

    pub gathered_without : (location_at s u (l - 1)).accepting ≡ false → Gathered s u m (set * 2) (l - 1)
    gathered_without e = gathered_one (set * 2) (omega (arith, gathered_next false e)) (omega arith)
