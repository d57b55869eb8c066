-- The transitions of a sheet fit: the test, and what it says of each location.
-- Assumes nothing.
use mathlib.Core.Path.{refl}
use mathlib.Core.Bool.{Bool, true, false}
use mathlib.Core.List.{List, [], ◌∷◌, ◌++◌}
use mathlib.Core.Logic.{inl, inr}
use Prim.Native.Nat.{ℕ, zero, suc, ◌+◌, ◌≤◌, ◌<◌}
use native.Mathlib.Omega.{arith}
use native.Mathlib.Nat.{le_trans}
use lib.Dec.{ltb}
use Rattle.enforcement.specs.Limits.{max_bound}
use Rattle.enforcement.specs.Automaton.{Bytes, locations, actions, clocks, bit, Transition, transitions, transitions_over, all_transitions}
use Rattle.enforcement.specs.Loading.{BoundsUpTo, OneClock, FitsUpTo, AllFitUpTo, AllFit, bounds_pass_up_to, one_clock_passes, fits_up_to, all_fit_up_to, Bounded}
use Rattle.enforcement.proofs.Tests.{Tests, Finds, true_false, leb_tests, ltb_tests, eqb_tests, not_tests, ltb_finds, both_tests, either_tests, implies_tests, tests_same}
use Rattle.enforcement.proofs.Pairs.{from_next, transitions_none}

bounds_tests : (b low high : ℕ) → Tests (bounds_pass_up_to b low high) (BoundsUpTo b low high)
bounds_tests b low high =
    tests_same
    (λ h. record { low_fits = h.0; high_fits = h.1.0; ordered = h.1.1 })
    (λ h. (h.low_fits, (h.high_fits, h.ordered)))
    (both_tests (leb_tests low b) (both_tests (either_tests (leb_tests high b) (eqb_tests high 255)) (leb_tests low high)))

one_clock_tests : (t : Transition) → Tests (one_clock_passes t) (OneClock t)
one_clock_tests t =
    tests_same
    (λ h. record { low_zero = h.0; high_none = h.1.0; kept = h.1.1 })
    (λ h. (h.low_zero, (h.high_none, h.kept)))
    (both_tests (eqb_tests t.low2 0) (both_tests (eqb_tests t.high2 255) (not_tests (bit t.resets 1))))

fits_tests : (b : ℕ) (s : Bytes) (t : Transition) → Tests (fits_up_to b s t) (FitsUpTo b s t)
unfolding fits_up_to
fits_tests b s t =
    tests_same
    (λ h. record { action_fits = h.0.0; target_fits = h.0.1.0; resets_fit = h.0.1.1; first = h.1.0.0; second = h.1.0.1; one_clock = h.1.1 })
    (λ h. ((h.action_fits, (h.target_fits, h.resets_fit)), ((h.first, h.second), h.one_clock)))
    (both_tests
    (both_tests (ltb_tests t.action (actions s)) (both_tests (ltb_tests t.target (locations s)) (leb_tests t.resets 3)))
    (both_tests (both_tests (bounds_tests b t.low1 t.high1) (bounds_tests b t.low2 t.high2)) (implies_tests (eqb_tests (clocks s) 1) (one_clock_tests t))))

pub all_fit_tests : (b : ℕ) (s : Bytes) (ts : List Transition) → Tests (all_fit_up_to b s ts) (AllFitUpTo b s ts)
unfolding all_fit_up_to
all_fit_tests b s [] = record { passes = λ e. tt; fails = λ e h. true_false refl e }
all_fit_tests b s (t ∷ ts) = both_tests (fits_tests b s t) (all_fit_tests b s ts)

-- What fits with one largest bound fits with a larger one.

bounds_wider : {b c : ℕ} → b ≤ c → {low high : ℕ} → BoundsUpTo b low high → BoundsUpTo c low high
bounds_wider k h = record { low_fits = le_trans h.low_fits k; high_fits = elim h.high_fits [ inl x ↦ inl (le_trans x k) | inr x ↦ inr x ]; ordered = h.ordered }

fits_wider : {b c : ℕ} → b ≤ c → (s : Bytes) {t : Transition} → FitsUpTo b s t → FitsUpTo c s t
fits_wider k s h = record { action_fits = h.action_fits; target_fits = h.target_fits; resets_fit = h.resets_fit; first = bounds_wider k h.first; second = bounds_wider k h.second; one_clock = h.one_clock }

pub all_fit_wider : {b c : ℕ} → b ≤ c → (s : Bytes) (ts : List Transition) → AllFitUpTo b s ts → AllFitUpTo c s ts
all_fit_wider k s [] h = tt
all_fit_wider k s (t ∷ ts) h = (fits_wider k s h.0, all_fit_wider k s ts h.1)

-- Where all transitions fit, so do those of each location.

module _ (m : ℕ) (s : Bytes) where
  parts_fit : (ts us : List Transition) → AllFitUpTo m s (ts ++ us) → AllFitUpTo m s ts × AllFitUpTo m s us
  parts_fit [] us h = (tt, h)
  parts_fit (t ∷ ts) us h = let r = parts_fit ts us h.1 in ((h.0, r.0), r.1)

  over_fit : (n l : ℕ) → AllFitUpTo m s (transitions_over s n l) → (k : ℕ) → l ≤ k → k < l + n → AllFitUpTo m s (transitions s k)
  unfolding transitions_over
  over_fit zero l h k a b = absurd (omega arith)
  over_fit (suc n) l h k a b =
      let r = parts_fit (transitions s l) (transitions_over s n (suc l)) h in
      from_next (λ j. AllFitUpTo m s (transitions s j)) l (l + suc n) r.0 (λ j c d. over_fit n (suc l) r.1 j c (omega arith)) k a b

  pub each_fits : AllFitUpTo m s (all_transitions s) → (l : ℕ) → AllFitUpTo m s (transitions s l)
  each_fits h l = go (ltb l (locations s)) (ltb_tests l (locations s)) (ltb_finds l (locations s))
    where
      go : (b : Bool) → Tests b (l < locations s) → Finds b (locations s ≤ l) → AllFitUpTo m s (transitions s l)
      go true t f = over_fit (locations s) 0 h l (omega arith) (let k = t.passes refl in omega arith)
      go false t f = rw (transitions_none s l (f.fails refl)) tt

pub all_bounded : (s : Bytes) → AllFit s (all_transitions s) → Bounded s
unfolding Bounded
all_bounded s h = each_fits max_bound s h
