-- How many joint transitions the loops have counted.
-- Assumes nothing.
use mathlib.Core.Path.{◌≡◌, sym, ap}
use mathlib.Core.List.{List}
use Prim.Native.Nat.{ℕ, ◌+◌, ◌-◌, ◌*◌, ◌≤◌, ◌<◌}
use native.Mathlib.Omega.{arith}
use lib.ListN.{length, length-append}
use Rattle.enforcement.specs.Limits.{max_size}
use Rattle.enforcement.specs.Automaton.{Bytes, Transition, byte, locations, transition_at}
use Rattle.product.specs.Encoding.{Location, transitions_in}
use Rattle.product.specs.Product.{joints_of, joints, location_at, locations_from, product_transitions}
use Rattle.product.specs.declared.row.Row.{Row}
use Rattle.product.specs.Rows.{row_transitions}
use Rattle.product.proofs.RowLaws.{place, rest, matching_next, other_next, matching_none, joints_next, joints_none, locations_next, locations_none}

-- Of the i transitions of the row that are passed, k are for the action of the one at p.
pub record Counted (s : Bytes) (p : ℕ) (u : Bytes) (r : Row) (k i : ℕ) : Type 0 where
  pub few : k ≤ i
  pub is : k + length (joints_of (locations u) (transition_at s p) (rest u r i)) ≡ length (joints_of (locations u) (transition_at s p) (row_transitions u r))

module _ {s : Bytes} {p : ℕ} {u : Bytes} {r : Row} {k i : ℕ} (h : Counted s p u r k i) where
  pub counted_one : i < r.count → byte u (place r i) ≡ byte s p → Counted s p u r (k + 1) (i + 1)
  counted_one some e = record {
    few = omega (arith, h.few);
    is = omega (arith, h.is, ap length (matching_next (locations u) (transition_at s p) u r i some (sym e)));
  }

  pub counted_other : i < r.count → (byte u (place r i) ≡ byte s p → ⊥) → Counted s p u r k (i + 1)
  counted_other some e = record {
    few = omega (arith, h.few);
    is = omega (arith, h.is, ap length (other_next (locations u) (transition_at s p) u r i some (λ f. e (sym f))));
  }

  pub counted_all : r.count ≤ i → k ≡ length (joints_of (locations u) (transition_at s p) (row_transitions u r))
  counted_all e = omega (arith, h.is, ap length (matching_none (locations u) (transition_at s p) u r i e))

-- ---- At a location

-- The i transitions of the first sheet's row that are passed give k joint ones with some of the second.
pub record CountedAt (s : Bytes) (w : ℕ) (vs : List Transition) (r : Row) (k i : ℕ) : Type 0 where
  pub few : k ≤ max_size * i
  pub is : k + length (joints w (rest s r i) vs) ≡ length (joints w (row_transitions s r) vs)

module _ {s : Bytes} {w : ℕ} {vs : List Transition} {r : Row} {k i : ℕ} (h : CountedAt s w vs r k i) where
  pub at_more : i < r.count → (n : ℕ) → n ≡ length (joints_of w (transition_at s (place r i)) vs) → n ≤ max_size → CountedAt s w vs r (k + n) (i + 1)
  at_more some n e f = record {
    few = omega (arith, h.few);
    is = omega (arith, h.is, ap length (joints_next w s r i vs some), length-append (joints_of w (transition_at s (place r i)) vs) (joints w (rest s r (i + 1)) vs));
  }

  pub at_all : r.count ≤ i → k ≡ length (joints w (row_transitions s r) vs)
  at_all e = omega (arith, h.is, ap length (joints_none w s r i vs e))

-- ---- In all

-- Of m locations those before l have k.
pub record CountedAll (s u : Bytes) (m k l : ℕ) : Type 0 where
  pub count_is : m ≡ locations s * locations u
  pub few : k ≤ max_size * max_size * l
  pub is : k + length (transitions_in (locations_from s u (m - l) l)) ≡ length (product_transitions s u)

module _ {s u : Bytes} {m k l : ℕ} (h : CountedAll s u m k l) where
  pub all_more : l < m → (i : ℕ) → i ≡ length (location_at s u l).transitions → i ≤ max_size * max_size → CountedAll s u m (k + i) (l + 1)
  unfolding transitions_in
  all_more some i e f = record {
    count_is = h.count_is;
    few = omega (arith, h.few);
    is = omega (arith, h.is, ap (λ (ls : List Location). length (transitions_in ls)) (locations_next s u m l some), length-append (location_at s u l).transitions (transitions_in (locations_from s u (m - (l + 1)) (l + 1))));
  }

  pub all_all : m ≤ l → k ≡ length (product_transitions s u)
  unfolding transitions_in
  all_all e = omega (arith, h.is, ap (λ (ls : List Location). length (transitions_in ls)) (locations_none s u m l e))
