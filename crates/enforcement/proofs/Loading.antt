-- The check at loading is right, and what a sheet that loads is.
-- Assumes nothing.
use mathlib.Core.Path.{◌≡◌, refl, ap, sym, subst}
use mathlib.Core.Logic.{◌⊎◌, inl, inr, ◌↔◌}
use Prim.Native.Nat.{ℕ, ◌+◌, ◌*◌, ◌^◌, ◌≤◌, ◌<◌}
use native.Mathlib.Omega.{arith}
use lib.Dec.{T}
use lib.ListN.{length}
use lib.Count.{ones}
use Rattle.enforcement.specs.Limits.{max_bound, max_transitions, max_date, max_size}
use Rattle.enforcement.specs.Automaton.{Bytes, word, locations, initial, accepting, all_transitions}
use Rattle.enforcement.specs.Reason.{Reason, i_1, i_2, i_3, i_4, i_5, i_6, i_7, i_8, s_1, s_2, s_3, s_4, s_5, number}
use Rattle.enforcement.specs.Loading.{HeaderFits, Layout, AllFit, HoldsUpTo, GivenUpTo, LoadsUpTo, Loads, WellFormed, counts_of, Checked, accepted, refused, check_up_to, check, CheckRightUpTo, CheckRight, Bounded, Deterministic}
use Rattle.enforcement.proofs.Tests.{sure}
use Rattle.enforcement.proofs.Bits.{bit_beyond, count_below, ones_count}
use Rattle.enforcement.proofs.Pairs.{layout_tests}
use Rattle.enforcement.proofs.Fitting.{all_fit_tests, all_bounded}
use Rattle.enforcement.proofs.Reasons.{number_same, answers_differ, header_tests, Right, Right.loads, Right.refuses, check_is}

module _ (m : ℕ) (s : Bytes) (d : ℕ) where
  -- Two reasons do not both come first.
  given_same : (q r : Reason) → GivenUpTo m q s d → GivenUpTo m r s d → q ≡ r
  given_same q r g h =
      let a : ¬ (number q < number r) = λ k. h.none_earlier q k g.holds in
      let b : ¬ (number r < number q) = λ k. g.none_earlier r k h.holds in
      number_same q r (omega arith)

  refused_given : (k : Checked) → Right m s d k → (r : Reason) → (k ≡ refused r) ↔ GivenUpTo m r s d
  refused_given k (loads h) r = (λ e. answers_differ e, λ g. absurd (h r g.holds))
  refused_given k (refuses q h) r = (λ e. let z : q ≡ r = cc in subst (λ (x : Reason). GivenUpTo m x s d) z h, λ g. ap refused (given_same q r h g))

  accepted_loads : (k : Checked) → Right m s d k → (k ≡ accepted (counts_of s)) ↔ LoadsUpTo m s d
  accepted_loads k (loads h) = (λ e. h, λ e. refl)
  accepted_loads k (refuses q h) = (λ e. answers_differ (sym e), λ l. absurd (l q h.holds))

  either_answer : (k : Checked) → Right m s d k → (k ≡ accepted (counts_of s)) ⊎ ((r : Reason) × (k ≡ refused r))
  either_answer k (loads h) = inl refl
  either_answer k (refuses q h) = inr (q, refl)

  -- With a largest bound up to 255, the high that is no bound.
  pub check_right_up_to : m ≤ 255 → CheckRightUpTo m s d
  check_right_up_to small =
      let k : Right m s d (check_up_to m s d) = check_is m s d small in
      record { refuses = refused_given (check_up_to m s d) k; accepts = accepted_loads (check_up_to m s d) k; one_of = either_answer (check_up_to m s d) k }

pub check_right : (s : Bytes) (d : ℕ) → CheckRight s d
check_right s d = check_right_up_to max_bound s d (omega arith)

-- ---- A sheet that loads, and one that is well-formed

module _ (s : Bytes) (d : ℕ) where
  pub loads_check : Loads s d → check s d ≡ accepted (counts_of s)
  loads_check = (check_right s d).accepts.1

  pub check_loads : check s d ≡ accepted (counts_of s) → Loads s d
  check_loads = (check_right s d).accepts.0

  -- Where a sheet loads at one date, it loads at every other up to the last one.
  loads_at : (e : ℕ) → e ≤ max_date → Loads s d → Loads s e
  unfolding HoldsUpTo
  loads_at e k h i_1 = h i_1
  loads_at e k h i_2 = h i_2
  loads_at e k h i_3 = h i_3
  loads_at e k h i_4 = h i_4
  loads_at e k h i_5 = h i_5
  loads_at e k h i_6 = h i_6
  loads_at e k h i_7 = h i_7
  loads_at e k h i_8 = λ x. absurd (omega arith)
  loads_at e k h s_1 = h s_1
  loads_at e k h s_2 = h s_2
  loads_at e k h s_3 = h s_3
  loads_at e k h s_4 = h s_4
  loads_at e k h s_5 = h s_5

-- A sheet loads at a date exactly when it has no refusal of its own and the date is not above the last one.
pub loads_is : (s : Bytes) (d : ℕ) → Loads s d ↔ (WellFormed s × (d ≤ max_date))
unfolding HoldsUpTo
loads_is s d = (λ h. (loads_at s d 0 (omega arith) h, let a : ¬ (max_date < d) = λ k. h i_8 k in omega arith), λ h. loads_at s 0 d h.1 h.0)

pub loads_formed : (s : Bytes) (d : ℕ) → Loads s d → WellFormed s
loads_formed s d h = ((loads_is s d).0 h).0

module _ (s : Bytes) where
  pub size_fits : WellFormed s → (6 ≤ length s) × (length s ≤ max_size)
  unfolding HoldsUpTo
  size_fits h =
      let a : ¬ (length s < 6) = λ k. h i_1 (inl k) in
      let b : ¬ (max_size < length s) = λ k. h i_1 (inr k) in
      (omega arith, omega arith)

  pub header : WellFormed s → HeaderFits s
  unfolding HoldsUpTo
  header h = sure (header_tests s) (h i_2)

  pub initial_fits : WellFormed s → initial s < locations s
  unfolding HoldsUpTo
  initial_fits h = let a : ¬ (locations s ≤ initial s) = λ k. h i_3 (inl k) in omega arith

  -- An accepting location is one of the sheet's.
  pub accepting_fits : WellFormed s → (l : ℕ) → T (accepting s l) → l < locations s
  unfolding HoldsUpTo
  accepting_fits h l t = let a : ¬ (locations s ≤ l) = λ k. h i_3 (inr (l, k, t)) in omega arith

  pub layout : WellFormed s → Layout s
  unfolding HoldsUpTo
  layout h = sure (layout_tests s) (λ k. h i_4 (inr (inl k)))

  pub pairs_fit : WellFormed s → 6 + 4 * locations s ≤ length s
  unfolding HoldsUpTo
  pairs_fit h = let a : ¬ (length s < 6 + 4 * locations s) = λ k. h i_4 (inl k) in omega arith

  pub transitions_fit : WellFormed s → length (all_transitions s) ≤ max_transitions
  unfolding HoldsUpTo
  transitions_fit h = let a : ¬ (max_transitions < length (all_transitions s)) = λ k. h i_4 (inr (inr k)) in omega arith

  pub all_fit_lem : WellFormed s → AllFit s (all_transitions s)
  unfolding HoldsUpTo
  all_fit_lem h = sure (all_fit_tests max_bound s (all_transitions s)) (h i_5)

  pub bounded : WellFormed s → Bounded s
  bounded h = all_bounded s (all_fit_lem h)

  pub deterministic : WellFormed s → Deterministic s
  unfolding HoldsUpTo Deterministic
  deterministic h l k = h i_6 (l, k)

  -- How many of the locations below n are accepting.
  abbrev pub count_accepting : ℕ → ℕ
  count_accepting n = count_below (accepting s) n

  pub accepting_counted : WellFormed s → ones (word s 4) ≡ count_accepting (locations s)
  unfolding HoldsUpTo
  accepting_counted h =
      let a : ¬ (2 ^ locations s ≤ word s 4) = λ k. h i_3 (inr (bit_beyond (locations s) (word s 4) k)) in
      ones_count (word s 4) (locations s) (omega arith)
