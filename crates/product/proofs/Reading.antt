-- What a load reads of the joined sheet: at each pair, both locations of it.
-- Assumes nothing.
use mathlib.Core.Path.{◌≡◌, refl, ap, ◌∙◌}
use mathlib.Core.Bool.{◌&&◌}
use Prim.Native.Nat.{ℕ, zero, suc, ◌+◌, ◌*◌, ◌<◌}
use native.Mathlib.Omega.{arith}
use lib.ListN.{length, get_or}
use Rattle.enforcement.specs.Automaton.{Bytes, locations, accepting, transitions}
use Rattle.product.specs.Encoding.{Location}
use Rattle.product.specs.Product.{location_of, joints, location_at, locations_from, all_locations, product, ReadsBoth}
use Rattle.product.proofs.Pairing.{pair_first, pair_second, pair_below}
use Rattle.product.proofs.Decoding.{nowhere, decoded}

module _ (s u : Bytes) where
  pub length_locations : (k l : ℕ) → length (locations_from s u k l) ≡ k
  unfolding locations_from
  length_locations zero l = refl
  length_locations (suc k) l = ap suc (length_locations k (suc l))

  pub locations_are : (k l i : ℕ) → i < k → get_or (locations_from s u k l) i nowhere ≡ location_at s u (l + i)
  unfolding locations_from
  locations_are zero l i h = absurd (omega arith)
  locations_are (suc k) l zero h = let e : l ≡ l + 0 = omega arith in ap (location_at s u) e
  locations_are (suc k) l (suc i) h = let e : suc l + i ≡ l + suc i = omega arith in locations_are k (suc l) i (omega arith) ∙ ap (location_at s u) e

  pub location_is : (l : ℕ) → l < locations s * locations u → get_or (all_locations s u) l nowhere ≡ location_at s u l
  location_is l h = let e : 0 + l ≡ l = omega arith in locations_are (locations s * locations u) 0 l h ∙ ap (location_at s u) e

  -- The location of both.
  abbrev pub both_at : ℕ → ℕ → Location
  both_at i j = record { accepting = accepting s i && accepting u j; transitions = joints (locations u) (transitions s i) (transitions u j) }

  pub pair_is : (i j : ℕ) → i < locations s → j < locations u → get_or (all_locations s u) (location_of (locations u) i j) nowhere ≡ both_at i j
  pair_is i j h k =
      location_is (location_of (locations u) i j) (pair_below (locations s) (locations u) i j h k)
      ∙ (λ x. both_at (pair_first (locations u) i j k x) (pair_second (locations u) i j k x))

  pub reads_both : ReadsBoth s u
  reads_both = record {
    begins = refl;
    accepts = λ i j h k. (decoded (product s u)).accepting_is (location_of (locations u) i j) ∙ ap (λ (l : Location). l.accepting) (pair_is i j h k);
    all = (decoded (product s u)).all_are;
    leads = λ i j h k. (decoded (product s u)).transitions_are (location_of (locations u) i j) ∙ ap (λ (l : Location). l.transitions) (pair_is i j h k);
  }
