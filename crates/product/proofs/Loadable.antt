-- The joined sheet loads, with the counts that joining has.
-- Assumes nothing.
use mathlib.Core.Path.{◌≡◌, refl, ap, ap₂, sym, ◌∙◌, subst}
use mathlib.Core.Bool.{◌&&◌}
use mathlib.Core.Logic.{inl, inr, ◌↔◌}
use Prim.Native.Nat.{ℕ, zero, suc, ◌+◌, ◌*◌, ◌<◌}
use native.Mathlib.Omega.{arith}
use native.Mathlib.Nat.{mul-le-mul}
use lib.ListN.{length, get_or, get_or-eq_default}
use lib.Count.{ones}
use Rattle.enforcement.specs.Limits.{max_transitions}
use Rattle.enforcement.specs.Automaton.{Bytes, word, locations, clocks, actions, initial, accepting, transitions, all_transitions}
use Rattle.enforcement.specs.Reason.{i_1, i_2, i_3, i_4, i_5, i_6, i_7, i_8, s_1, s_2, s_3, s_4, s_5}
use Rattle.enforcement.specs.Loading.{HeaderFits, BitBeyond, AllFit, OverlapIn, HoldsUpTo, WellFormed, counts_of, accepted, Bounded, Deterministic}
use Rattle.enforcement.proofs.Bits.{bit_large, count_below}
use Rattle.enforcement.proofs.Loading.{header, initial_fits, bounded, deterministic, loads_is, loads_check, accepting_counted}
use Rattle.retimer.proofs.CostLaws.{le_or_lt}
use Rattle.product.specs.Encoding.{Location, transitions_in}
use Rattle.product.specs.Product.{first_of, second_of, joints, location_at, locations_from, all_locations, product, product_transitions, joined, Joinable, product_counts, Loadable}
use Rattle.product.proofs.Decoding.{nowhere, Decoded, decoded}
use Rattle.product.proofs.Pairing.{pair_below}
use Rattle.product.proofs.OneClock.{first_clock, second_clock}
use Rattle.product.proofs.Reading.{length_locations, location_is}
use Rattle.product.proofs.Accepting.{count_same, count_pairs}
use Rattle.product.proofs.Joints.{fit_append, joints_fit, joints_overlap}

module _ {s u : Bytes} (j : Joinable s u) where
  first_header : HeaderFits s
  first_header = header s j.first

  second_header : HeaderFits u
  second_header = header u j.second

  two_clocks : clocks s + clocks u ≡ 2
  two_clocks = omega (arith, first_clock j, second_clock j)

  pairs : length (all_locations s u) ≡ locations s * locations u
  pairs = length_locations s u (locations s * locations u) 0

  reads : Decoded (product s u)
  reads = decoded (product s u)

  header_joined : HeaderFits (joined s u)
  header_joined = record {
    a_location = omega (arith, pairs, mul-le-mul first_header.a_location second_header.a_location);
    locations_fit = omega (arith, pairs, j.locations_fit);
    a_clock = omega (arith, two_clocks);
    clocks_fit = omega (arith, two_clocks);
    an_action = first_header.an_action;
    actions_fit = first_header.actions_fit;
  }

  initial_joined : initial (joined s u) < locations (joined s u)
  initial_joined = omega (arith, pairs, pair_below (locations s) (locations u) (initial s) (initial u) (initial_fits s j.first) (initial_fits u j.second))

  none_beyond : BitBeyond (joined s u) → ⊥
  none_beyond b = omega (arith, bit_large (length (all_locations s u)) (word (joined s u) 4) b.0 b.1 b.2, reads.set_is, reads.set_fits)

  -- The transitions of each location fit.
  some_fit : (k l : ℕ) → AllFit (joined s u) (transitions_in (locations_from s u k l))
  unfolding locations_from transitions_in Bounded
  some_fit zero l = tt
  some_fit (suc k) l =
      let n : ℕ = locations u in
      let ts = transitions s (first_of n l) in
      let vs = transitions u (second_of n l) in
      fit_append (joined s u) (joints n ts vs) (transitions_in (locations_from s u k (suc l)))
      (joints_fit s u (joined s u) (first_clock j) (second_clock j) two_clocks refl pairs ts vs (bounded s j.first (first_of n l)) (bounded u j.second (second_of n l)))
      (some_fit k (suc l))

  fit_joined : AllFit (joined s u) (all_transitions (joined s u))
  fit_joined = subst (AllFit (joined s u)) (sym reads.all_are) (some_fit (locations s * locations u) 0)

  -- No two overlap: at a pair they are both sheets' own, and beyond the pairs there are none.
  apart : (l : ℕ) → OverlapIn (location_at s u l).transitions → ⊥
  unfolding Bounded Deterministic
  apart l o =
      let n : ℕ = locations u in
      let f = bounded s j.first (first_of n l) in
      let g = bounded u j.second (second_of n l) in
      elim (joints_overlap s u n (first_clock j) (second_clock j) (transitions s (first_of n l)) (transitions u (second_of n l)) f g o) [ inl x ↦ deterministic s j.first (first_of n l) x | inr x ↦ deterministic u j.second (second_of n l) x ]

  none_overlap : (l : ℕ) → OverlapIn (get_or (all_locations s u) l nowhere).transitions → ⊥
  none_overlap l o =
      elim (le_or_lt (length (all_locations s u)) l) [
        | inl h ↦ subst (λ (x : Location). OverlapIn x.transitions) (get_or-eq_default (all_locations s u) nowhere h) o
        | inr h ↦ apart l (subst (λ (x : Location). OverlapIn x.transitions) (location_is s u l (omega (arith, pairs))) o)
      ]

  formed_joined : WellFormed (joined s u)
  unfolding HoldsUpTo
  formed_joined i_1 = elim [ inl h ↦ omega (arith, reads.length_is) | inr h ↦ omega (arith, reads.length_is, pairs, j.locations_fit, j.transitions_fit) ]
  formed_joined i_2 = λ h. h header_joined
  formed_joined i_3 = elim [ inl h ↦ omega (arith, initial_joined) | inr h ↦ none_beyond h ]
  formed_joined i_4 = elim [ inl h ↦ omega (arith, reads.length_is) | inr (inl h) ↦ h reads.layout_is | inr (inr h) ↦ omega (arith, ap length reads.all_are, j.transitions_fit) ]
  formed_joined i_5 = λ h. h fit_joined
  formed_joined i_6 = λ h. none_overlap h.0 (subst OverlapIn (reads.transitions_are h.0) h.1)
  formed_joined i_7 = λ h. h
  formed_joined i_8 = λ h. absurd (omega arith)
  formed_joined s_1 = λ h. h
  formed_joined s_2 = λ h. h
  formed_joined s_3 = λ h. h
  formed_joined s_4 = λ h. h
  formed_joined s_5 = λ h. h

  -- A pair is accepting where both of it are.
  accepting_joined : ones (word (joined s u) 4) ≡ ones (word s 4) * ones (word u 4)
  accepting_joined =
      let m : ℕ = locations s in
      let n : ℕ = locations u in
      accepting_counted (joined s u) formed_joined
      ∙ ap (count_below (accepting (joined s u))) pairs
      ∙ count_same (accepting (joined s u)) (λ l. accepting s (first_of n l) && accepting u (second_of n l)) (m * n) (λ l h. reads.accepting_is l ∙ ap (λ (x : Location). x.accepting) (location_is s u l h))
      ∙ count_pairs (accepting s) (accepting u) n m
      ∙ ap₂ ◌*◌ (sym (accepting_counted s j.first)) (sym (accepting_counted u j.second))

  counts_joined : counts_of (joined s u) ≡ product_counts s u
  counts_joined = λ i. record { locations = pairs i; clocks = two_clocks i; actions = actions s; transitions = ap length reads.all_are i; accepting = accepting_joined i }

  pub loadable : Loadable s u
  loadable = record { formed = formed_joined; counts = λ d h. loads_check (joined s u) d ((loads_is (joined s u) d).1 (formed_joined, h)) ∙ ap accepted counts_joined }

-- Of two sheets that load and have the same actions, those that can't be joined are just those whose joined sheet would not load.
pub joinable_is : {s u : Bytes} → WellFormed s → WellFormed u → actions s ≡ actions u → Joinable s u ↔ WellFormed (joined s u)
unfolding HoldsUpTo
joinable_is {s} {u} f g e = (
  λ j. formed_joined j,
  λ h. let k = header (joined s u) h in
      let few : ¬ (max_transitions < length (product_transitions s u)) = λ x. h i_4 (inr (inr (subst (λ (n : ℕ). max_transitions < n) (sym (ap length (decoded (product s u)).all_are)) x))) in
      record { first = f; second = g; same_actions = e; clocks_fit = k.clocks_fit; locations_fit = omega (arith, k.locations_fit, length_locations s u (locations s * locations u) 0); transitions_fit = omega arith },
)
