-- The pairs that the loop has put.
-- Assumes nothing.
use mathlib.Core.Path.{◌≡◌, sym, ap, ap₂, ◌∙◌}
use mathlib.Core.List.{List, ◌++◌}
use Prim.Native.Nat.{ℕ, ◌+◌, ◌-◌, ◌*◌, ◌≤◌, ◌<◌}
use native.Mathlib.Omega.{arith}
use lib.ListN.{length, length-append}
use Rattle.enforcement.specs.Automaton.{Bytes, locations}
use Rattle.retimer.specs.Bytes.{Wrote}
use Rattle.product.specs.Encoding.{Location, word_bytes, transitions_in, pairs_from}
use Rattle.product.specs.Product.{location_at, locations_from, all_locations, product_transitions, Joinable}
use Rattle.product.proofs.Decoding.{pairs_length}
use Rattle.product.proofs.Reading.{length_locations}
use Rattle.product.proofs.Filling.{Filling, filling_none, filling_as, part_room, filling_more, filling_all}
use Rattle.product.proofs.RowLaws.{locations_next, locations_none}

-- All pairs, and those from l on, whose transitions begin at a place.
abbrev all_pairs : Bytes → Bytes → Bytes
all_pairs s u = pairs_from (6 + 4 * (locations s * locations u)) (all_locations s u)

abbrev rest_pairs : Bytes → Bytes → ℕ → ℕ → ℕ → Bytes
rest_pairs s u m place l = pairs_from place (locations_from s u (m - l) l)

-- Of m locations those from l on are ahead.
pub record Placing (s u before : Bytes) (at m : ℕ) (out : Bytes) (end place l : ℕ) : Type 0 where
  pub joinable : Joinable s u
  pub count_is : m ≡ locations s * locations u
  pub room : at + length (all_pairs s u) ≤ length before
  pub placed : place + 7 * length (transitions_in (locations_from s u (m - l) l)) ≡ 6 + 4 * m + 7 * length (product_transitions s u)
  pub filling : Filling before at (all_pairs s u) out end (rest_pairs s u m place l)

pub placing_begun : (s u before : Bytes) (at m : ℕ) → Joinable s u → m ≡ locations s * locations u → at + 4 * (locations s * locations u) ≤ length before → Placing s u before at m before at (6 + 4 * m) 0
placing_begun s u before at m j e r =
    let z : m - 0 ≡ locations s * locations u = omega arith in
    record {
      joinable = j;
      count_is = e;
      room = omega (arith, pairs_length (6 + 4 * (locations s * locations u)) (all_locations s u), length_locations s u (locations s * locations u) 0);
      placed = ap (λ (k : ℕ). 6 + 4 * m + 7 * length (transitions_in (locations_from s u k 0))) z;
      filling = filling_as (filling_none before at (all_pairs s u)) (ap₂ (λ (i k : ℕ). pairs_from (6 + 4 * i) (locations_from s u k 0)) (sym e) (sym z));
    }

module _ {s u before out : Bytes} {at m end place l : ℕ} (h : Placing s u before at m out end place l) where
  module _ (some : l < m) (size : ℕ) (e : size ≡ 7 * length (location_at s u l).transitions) where
    ahead : length (transitions_in (locations_from s u (m - l) l)) ≡ length (location_at s u l).transitions + length (transitions_in (locations_from s u (m - (l + 1)) (l + 1)))
    unfolding transitions_in
    ahead = ap (λ (ls : List Location). length (transitions_in ls)) (locations_next s u m l some) ∙ length-append (location_at s u l).transitions (transitions_in (locations_from s u (m - (l + 1)) (l + 1)))

    -- Place and size have two bytes.
    pub place_fits : place < 65536
    place_fits = omega (arith, h.placed, h.count_is, h.joinable.locations_fit, h.joinable.transitions_fit)

    pub size_fits : size < 65536
    size_fits = omega (arith, ahead, h.placed, h.count_is, h.joinable.locations_fit, h.joinable.transitions_fit)

    pair_next : rest_pairs s u m place l ≡ (word_bytes place ++ word_bytes size) ++ rest_pairs s u m (place + size) (l + 1)
    unfolding pairs_from
    pair_next = ap (pairs_from place) (locations_next s u m l some) ∙ ap (λ (k : ℕ). word_bytes place ++ word_bytes k ++ pairs_from (place + k) (locations_from s u (m - (l + 1)) (l + 1))) (sym e)

    pub placing_room : end + 4 ≤ length out
    placing_room = part_room (word_bytes place ++ word_bytes size) (rest_pairs s u m (place + size) (l + 1)) (filling_as h.filling pair_next) h.room

    pub placing_put : {after : Bytes} {end' : ℕ} → Wrote out end (word_bytes place ++ word_bytes size) after end' → length after ≡ length out → Placing s u before at m after end' (place + size) (l + 1)
    placing_put w k = record { joinable = h.joinable; count_is = h.count_is; room = h.room; placed = omega (arith, ahead, h.placed, e); filling = filling_more (filling_as h.filling pair_next) h.room w k }

  pub placing_done : m ≤ l → Wrote before at (all_pairs s u) out end
  unfolding pairs_from
  placing_done k = filling_all h.filling (ap (pairs_from place) (locations_none s u m l k))
