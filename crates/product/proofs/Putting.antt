-- The joint transitions that the loops have put.
-- Assumes nothing.
use mathlib.Core.Path.{◌≡◌, ap, ◌∙◌}
use mathlib.Core.List.{List, ◌++◌}
use Prim.Native.Nat.{ℕ, ◌+◌, ◌-◌, ◌*◌, ◌≤◌, ◌<◌}
use native.Mathlib.Omega.{arith}
use lib.ListN.{length}
use Rattle.enforcement.specs.Automaton.{Bytes, Transition, byte, locations, transition_at}
use Rattle.retimer.specs.Bytes.{Wrote}
use Rattle.product.specs.Encoding.{Location, transitions_in, transition_bytes, transitions_bytes}
use Rattle.product.specs.Product.{joint, joints_of, joints, location_at, locations_from, product_transitions}
use Rattle.product.specs.declared.row.Row.{Row}
use Rattle.product.specs.Rows.{row_transitions}
use Rattle.product.proofs.Decoding.{bytes_append}
use Rattle.product.proofs.Filling.{Filling, filling_none, filling_as, part_room, filling_more, filling_all}
use Rattle.product.proofs.RowLaws.{place, rest, rest_all, matching_next, other_next, matching_none, joints_next, joints_none, locations_next, locations_none}

-- ---- A transition of the first sheet with those of a row

abbrev matching_bytes : Bytes → ℕ → Bytes → List Transition → Bytes
matching_bytes s p u ts = transitions_bytes (joints_of (locations u) (transition_at s p) ts)

-- Those of the row from i on are ahead.
pub record Matching (s : Bytes) (p : ℕ) (u before : Bytes) (at : ℕ) (r : Row) (out : Bytes) (end i : ℕ) : Type 0 where
  pub room : at + length (matching_bytes s p u (row_transitions u r)) ≤ length before
  pub filling : Filling before at (matching_bytes s p u (row_transitions u r)) out end (matching_bytes s p u (rest u r i))

pub matching_begun : (s : Bytes) (p : ℕ) (u before : Bytes) (at : ℕ) (r : Row) → at + length (matching_bytes s p u (row_transitions u r)) ≤ length before → Matching s p u before at r before at 0
matching_begun s p u before at r h = record { room = h; filling = filling_as (filling_none before at (matching_bytes s p u (row_transitions u r))) (ap (matching_bytes s p u) (rest_all u r)) }

module _ {s : Bytes} {p : ℕ} {u before out : Bytes} {at : ℕ} {r : Row} {end i : ℕ} (h : Matching s p u before at r out end i) where
  taken : i < r.count → byte s p ≡ byte u (place r i) → matching_bytes s p u (rest u r i) ≡ transition_bytes (joint (locations u) (transition_at s p) (transition_at u (place r i))) ++ matching_bytes s p u (rest u r (i + 1))
  unfolding transitions_bytes
  taken some e = ap transitions_bytes (matching_next (locations u) (transition_at s p) u r i some e)

  -- There is room for one that matches.
  pub matching_room : i < r.count → byte s p ≡ byte u (place r i) → end + 7 ≤ length out
  matching_room some e = part_room (transition_bytes (joint (locations u) (transition_at s p) (transition_at u (place r i)))) (matching_bytes s p u (rest u r (i + 1))) (filling_as h.filling (taken some e)) h.room

  pub matching_put : {after : Bytes} {end' : ℕ} → i < r.count → byte s p ≡ byte u (place r i) → Wrote out end (transition_bytes (joint (locations u) (transition_at s p) (transition_at u (place r i)))) after end' → length after ≡ length out → Matching s p u before at r after end' (i + 1)
  matching_put some e w l = record { room = h.room; filling = filling_more (filling_as h.filling (taken some e)) h.room w l }

  pub matching_left : i < r.count → (byte s p ≡ byte u (place r i) → ⊥) → Matching s p u before at r out end (i + 1)
  matching_left some e = record { room = h.room; filling = filling_as h.filling (ap transitions_bytes (other_next (locations u) (transition_at s p) u r i some e)) }

  pub matching_done : r.count ≤ i → Wrote before at (matching_bytes s p u (row_transitions u r)) out end
  unfolding transitions_bytes
  matching_done e = filling_all h.filling (ap transitions_bytes (matching_none (locations u) (transition_at s p) u r i e))

-- ---- Those of a location

-- Those of the first sheet's row from i on are ahead.
pub record Laying (s : Bytes) (w : ℕ) (vs : List Transition) (before : Bytes) (at : ℕ) (r : Row) (out : Bytes) (end i : ℕ) : Type 0 where
  pub room : at + length (transitions_bytes (joints w (row_transitions s r) vs)) ≤ length before
  pub filling : Filling before at (transitions_bytes (joints w (row_transitions s r) vs)) out end (transitions_bytes (joints w (rest s r i) vs))

pub laying_begun : (s : Bytes) (w : ℕ) (vs : List Transition) (before : Bytes) (at : ℕ) (r : Row) → at + length (transitions_bytes (joints w (row_transitions s r) vs)) ≤ length before → Laying s w vs before at r before at 0
laying_begun s w vs before at r h = record { room = h; filling = filling_as (filling_none before at (transitions_bytes (joints w (row_transitions s r) vs))) (ap (λ (ts : List Transition). transitions_bytes (joints w ts vs)) (rest_all s r)) }

module _ {s : Bytes} {w : ℕ} {vs : List Transition} {before out : Bytes} {at : ℕ} {r : Row} {end i : ℕ} (h : Laying s w vs before at r out end i) where
  one : i < r.count → transitions_bytes (joints w (rest s r i) vs) ≡ transitions_bytes (joints_of w (transition_at s (place r i)) vs) ++ transitions_bytes (joints w (rest s r (i + 1)) vs)
  one some = ap transitions_bytes (joints_next w s r i vs some) ∙ bytes_append (joints_of w (transition_at s (place r i)) vs) (joints w (rest s r (i + 1)) vs)

  pub laying_room : i < r.count → end + length (transitions_bytes (joints_of w (transition_at s (place r i)) vs)) ≤ length out
  laying_room some = part_room (transitions_bytes (joints_of w (transition_at s (place r i)) vs)) (transitions_bytes (joints w (rest s r (i + 1)) vs)) (filling_as h.filling (one some)) h.room

  pub laying_put : {after : Bytes} {end' : ℕ} → i < r.count → Wrote out end (transitions_bytes (joints_of w (transition_at s (place r i)) vs)) after end' → length after ≡ length out → Laying s w vs before at r after end' (i + 1)
  laying_put some x l = record { room = h.room; filling = filling_more (filling_as h.filling (one some)) h.room x l }

  pub laying_done : r.count ≤ i → Wrote before at (transitions_bytes (joints w (row_transitions s r) vs)) out end
  unfolding transitions_bytes
  laying_done e = filling_all h.filling (ap transitions_bytes (joints_none w s r i vs e))

-- ---- All of them

abbrev rest_bytes : Bytes → Bytes → ℕ → ℕ → Bytes
rest_bytes s u m l = transitions_bytes (transitions_in (locations_from s u (m - l) l))

-- Of m locations those from l on are ahead.
pub record Going (s u before : Bytes) (at m : ℕ) (out : Bytes) (end l : ℕ) : Type 0 where
  pub count_is : m ≡ locations s * locations u
  pub room : at + length (transitions_bytes (product_transitions s u)) ≤ length before
  pub filling : Filling before at (transitions_bytes (product_transitions s u)) out end (rest_bytes s u m l)

pub going_begun : (s u before : Bytes) (at m : ℕ) → m ≡ locations s * locations u → at + length (transitions_bytes (product_transitions s u)) ≤ length before → Going s u before at m before at 0
going_begun s u before at m e r =
    let z : locations s * locations u ≡ m - 0 = omega arith in
    record { count_is = e; room = r; filling = filling_as (filling_none before at (transitions_bytes (product_transitions s u))) (ap (λ (k : ℕ). transitions_bytes (transitions_in (locations_from s u k 0))) z) }

module _ {s u before out : Bytes} {at m end l : ℕ} (h : Going s u before at m out end l) where
  module _ (some : l < m) where
    going_one : rest_bytes s u m l ≡ transitions_bytes (location_at s u l).transitions ++ rest_bytes s u m (l + 1)
    unfolding transitions_in
    going_one = ap (λ (ls : List Location). transitions_bytes (transitions_in ls)) (locations_next s u m l some) ∙ bytes_append (location_at s u l).transitions (transitions_in (locations_from s u (m - (l + 1)) (l + 1)))

    pub going_room : end + length (transitions_bytes (location_at s u l).transitions) ≤ length out
    going_room = part_room (transitions_bytes (location_at s u l).transitions) (rest_bytes s u m (l + 1)) (filling_as h.filling going_one) h.room

    pub going_put : {after : Bytes} {end' : ℕ} → Wrote out end (transitions_bytes (location_at s u l).transitions) after end' → length after ≡ length out → Going s u before at m after end' (l + 1)
    going_put w e = record { count_is = h.count_is; room = h.room; filling = filling_more (filling_as h.filling going_one) h.room w e }

  pub going_done : m ≤ l → Wrote before at (transitions_bytes (product_transitions s u)) out end
  unfolding transitions_bytes transitions_in
  going_done e = filling_all h.filling (ap (λ (ls : List Location). transitions_bytes (transitions_in ls)) (locations_none s u m l e))
