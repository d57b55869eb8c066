-- The check at loading finds the first reason that holds.
-- Assumes nothing.
use mathlib.Core.Path.{◌≡◌, refl, ap, sym, ◌∙◌, subst}
use mathlib.Core.Bool.{Bool, true, false, ◌&&◌}
use mathlib.Core.List.{[], ◌∷◌}
use mathlib.Core.Logic.{inl, inr}
use Prim.Native.Nat.{ℕ, suc, ◌+◌, ◌*◌, ◌^◌, ◌≤◌, ◌<◌}
use native.Mathlib.Omega.{arith}
use native.Mathlib.Nat.{eq-or-lt_of_le}
use lib.Dec.{leb, ltb}
use lib.ListN.{length, get_or}
use Rattle.enforcement.specs.Limits.{max_count, max_transitions, max_date, max_size}
use Rattle.enforcement.specs.Automaton.{Bytes, word, locations, actions, clocks, initial, all_transitions}
use Rattle.enforcement.specs.Reason.{Reason, i_1, i_2, i_3, i_4, i_5, i_6, i_7, i_8, s_1, s_2, s_3, s_4, s_5, number}
use Rattle.enforcement.specs.Loading.{HeaderFits, BitBeyond, HoldsUpTo, GivenUpTo, LoadsUpTo, Counts, counts_of, Checked, accepted, refused, size_passes, header_passes, initial_passes, layout_passes, all_fit_up_to, disjoint_over, unless, check_up_to}
use Rattle.enforcement.proofs.Tests.{Tests, Finds, leb_tests, leb_finds, ltb_finds, both_tests, both_finds, tests_same, finds_same, finds_not}
use Rattle.enforcement.proofs.Bits.{bit_beyond, bit_large}
use Rattle.enforcement.proofs.Pairs.{layout_tests}
use Rattle.enforcement.proofs.Fitting.{all_fit_tests, all_fit_wider}
use Rattle.enforcement.proofs.Overlaps.{overlap_finds}

-- ---- The tests of I-1 to I-4; that of I-8 is a comparison, and those of I-5 and I-6 are in Fitting.antt and Overlaps.antt.

size_finds : (m : ℕ) (s : Bytes) (d : ℕ) → Finds (size_passes s) (HoldsUpTo m i_1 s d)
unfolding size_passes HoldsUpTo
size_finds m s d = both_finds (leb_finds 6 (length s)) (leb_finds (length s) max_size)

pub header_tests : (s : Bytes) → Tests (header_passes s) (HeaderFits s)
unfolding header_passes
header_tests s =
    tests_same
    (λ h. record { a_location = h.0.0; locations_fit = h.0.1; a_clock = h.1.0.0; clocks_fit = h.1.0.1; an_action = h.1.1.0; actions_fit = h.1.1.1 })
    (λ h. ((h.a_location, h.locations_fit), ((h.a_clock, h.clocks_fit), (h.an_action, h.actions_fit))))
    (both_tests (range 1 (locations s) max_count) (both_tests (range 1 (clocks s) 2) (range 1 (actions s) max_count)))
  where
    range : (a n b : ℕ) → Tests (leb a n && leb n b) ((a ≤ n) × (n ≤ b))
    range a n b = both_tests (leb_tests a n) (leb_tests n b)

bits_finds : (s : Bytes) → Finds (ltb (word s 4) (2 ^ locations s)) (BitBeyond s)
bits_finds s = finds_same (bit_beyond (locations s) (word s 4)) (λ h. bit_large (locations s) (word s 4) h.0 h.1 h.2) (ltb_finds (word s 4) (2 ^ locations s))

initial_finds : (m : ℕ) (s : Bytes) (d : ℕ) → Finds (initial_passes s) (HoldsUpTo m i_3 s d)
unfolding initial_passes HoldsUpTo
initial_finds m s d = both_finds (ltb_finds (initial s) (locations s)) (bits_finds s)

layout_finds : (m : ℕ) (s : Bytes) (d : ℕ) → Finds (layout_passes s) (HoldsUpTo m i_4 s d)
unfolding layout_passes HoldsUpTo
layout_finds m s d = both_finds (leb_finds (6 + 4 * locations s) (length s)) (both_finds (finds_not (layout_tests s)) (leb_finds (length (all_transitions s)) max_transitions))

-- ---- The reasons in order

-- A reason by its number; 0 is no reason's.
abbrev named : ℕ → Reason
named n = get_or (i_1 ∷ i_1 ∷ i_2 ∷ i_3 ∷ i_4 ∷ i_5 ∷ i_6 ∷ i_7 ∷ i_8 ∷ s_1 ∷ s_2 ∷ s_3 ∷ s_4 ∷ s_5 ∷ []) n i_1

named_number : (r : Reason) → named (number r) ≡ r
named_number i_1 = refl
named_number i_2 = refl
named_number i_3 = refl
named_number i_4 = refl
named_number i_5 = refl
named_number i_6 = refl
named_number i_7 = refl
named_number i_8 = refl
named_number s_1 = refl
named_number s_2 = refl
named_number s_3 = refl
named_number s_4 = refl
named_number s_5 = refl

pub number_same : (q r : Reason) → number q ≡ number r → q ≡ r
number_same q r e = sym (named_number q) ∙ ap named e ∙ named_number r

pub answers_differ : {n : Counts} {r : Reason} {A : Type 0} → accepted n ≡ refused r → A
answers_differ e = let z : ◌≡◌ {A = ℕ} 0 1 = cc in absurd (omega arith)

module _ (m : ℕ) (s : Bytes) (d : ℕ) where
  -- No reason numbered below n has its condition.
  abbrev Before : ℕ → Type 0
  Before n = (q : Reason) → number q < n → HoldsUpTo m q s d → ⊥

  -- An answer that is right.
  pub data Right : Checked → Type 0 where
    loads : LoadsUpTo m s d → Right (accepted (counts_of s))
    refuses : (r : Reason) → GivenUpTo m r s d → Right (refused r)

  -- One test of the chain: it answers, or those after it do.
  unless_right : (b : Bool) (r : Reason) (k : Checked) → Finds b (HoldsUpTo m r s d) → Before (number r) → (b ≡ true → Before (suc (number r)) → Right k) → Right (unless b r k)
  unless_right true r k f h g = g refl (λ q a c. elim (eq-or-lt_of_le a) [ inl e ↦ f.passes refl (subst (λ (x : Reason). HoldsUpTo m x s d) (number_same q r (omega arith)) c) | inr e ↦ h q (omega arith) c ])
  unless_right false r k f h g = refuses r (record { holds = f.fails refl; none_earlier = h })

  none_left : Before 9 → LoadsUpTo m s d
  unfolding HoldsUpTo
  none_left h i_1 = h i_1 (omega arith)
  none_left h i_2 = h i_2 (omega arith)
  none_left h i_3 = h i_3 (omega arith)
  none_left h i_4 = h i_4 (omega arith)
  none_left h i_5 = h i_5 (omega arith)
  none_left h i_6 = h i_6 (omega arith)
  none_left h i_7 = λ x. x
  none_left h i_8 = h i_8 (omega arith)
  none_left h s_1 = λ x. x
  none_left h s_2 = λ x. x
  none_left h s_3 = λ x. x
  none_left h s_4 = λ x. x
  none_left h s_5 = λ x. x

  none_first : Before (number i_1)
  none_first q h =
      let e : number q ≡ 0 = omega arith in
      let k : number i_1 ≡ number q = ap number (ap named (sym e) ∙ named_number q) in
      absurd (omega arith)

  -- I-7 is no reason of a load.
  none_seventh : Before (number i_7) → Before (number i_8)
  unfolding HoldsUpTo
  none_seventh h q a c = elim (eq-or-lt_of_le a) [ inl e ↦ subst (λ (x : Reason). HoldsUpTo m x s d) (number_same q i_7 (omega arith)) c | inr e ↦ h q (omega arith) c ]

  pub check_is : m ≤ 255 → Right (check_up_to m s d)
  unfolding check_up_to HoldsUpTo
  check_is small =
      unless_right (size_passes s) i_1 _ (size_finds m s d) none_first λ a1 b1.
      unless_right (header_passes s) i_2 _ (finds_not (header_tests s)) b1 λ a2 b2.
      unless_right (initial_passes s) i_3 _ (initial_finds m s d) b2 λ a3 b3.
      unless_right (layout_passes s) i_4 _ (layout_finds m s d) b3 λ a4 b4.
      unless_right (all_fit_up_to m s (all_transitions s)) i_5 _ (finds_not (all_fit_tests m s (all_transitions s))) b4 λ a5 b5.
      unless_right (disjoint_over s (locations s) 0) i_6 _ (overlap_finds s (all_fit_wider small s (all_transitions s) ((all_fit_tests m s (all_transitions s)).passes a5))) b5 λ a6 b6.
      unless_right (leb d max_date) i_8 _ (leb_finds d max_date) (none_seventh b6) λ a8 b8.
      loads (none_left b8)
