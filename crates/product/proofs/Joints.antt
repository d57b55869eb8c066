-- The transitions of a pair, of sheets with one clock each: they fit, and where two of them overlap, two of a sheet's own do.
-- Assumes nothing.
use mathlib.Core.Path.{◌≡◌, refl, sym, ◌∙◌, subst⁻¹}
use mathlib.Core.Bool.{Bool, true, false, cond}
use mathlib.Core.List.{List, [], ◌∷◌, ◌++◌}
use mathlib.Core.Logic.{◌⊎◌, inl, inr}
use Prim.Native.Nat.{ℕ, ◌*◌}
use native.Mathlib.Omega.{arith}
use lib.Dec.{T, eqb}
use Rattle.enforcement.specs.Automaton.{Bytes, clocks, actions, locations, Transition, within, enabled}
use Rattle.enforcement.specs.Loading.{OneClock, Fits, AllFit, Overlap, OverlapsOne, OverlapIn}
use Rattle.enforcement.proofs.Tests.{Tests, T-tests, eqb_tests, both_tests, proved}
use Rattle.product.specs.Product.{joint, joints_of, joints}
use Rattle.product.proofs.Pairing.{pair_below}
use Rattle.product.proofs.OneClock.{resets_small, enabled_first}

-- ---- They fit

pub fit_append : (s : Bytes) (ts us : List Transition) → AllFit s ts → AllFit s us → AllFit s (ts ++ us)
fit_append s [] us h k = k
fit_append s (t ∷ ts) us h k = (h.0, fit_append s ts us h.1 k)

-- In a sheet with two clocks whose locations are the pairs.
module _ (s u w : Bytes) (one-s : clocks s ≡ 1) (one-u : clocks u ≡ 1) (two : clocks w ≡ 2) (same : actions w ≡ actions s) (pairs : locations w ≡ locations s * locations u) where
  joint_fits : (t v : Transition) → Fits s t → Fits u v → Fits w (joint (locations u) t v)
  joint_fits t v h k = record {
    action_fits = omega (arith, h.action_fits);
    target_fits = omega (arith, pair_below (locations s) (locations u) t.target v.target h.target_fits k.target_fits);
    resets_fit = omega (arith, resets_small t h.resets_fit (h.one_clock one-s), resets_small v k.resets_fit (k.one_clock one-u));
    first = h.first;
    second = k.first;
    one_clock = λ e. absurd (omega arith);
  }

  row_fits : (t : Transition) (vs : List Transition) → Fits s t → AllFit u vs → AllFit w (joints_of (locations u) t vs)
  unfolding joints_of
  row_fits t [] h k = tt
  row_fits t (v ∷ vs) h k = go (eqb t.action v.action) (row_fits t vs h k.1)
    where
      go : (b : Bool) → AllFit w (joints_of (locations u) t vs) → AllFit w (cond b (joint (locations u) t v ∷ joints_of (locations u) t vs) (joints_of (locations u) t vs))
      go true r = (joint_fits t v h k.0, r)
      go false r = r

  pub joints_fit : (ts vs : List Transition) → AllFit s ts → AllFit u vs → AllFit w (joints (locations u) ts vs)
  unfolding joints
  joints_fit [] vs h k = tt
  joints_fit (t ∷ ts) vs h k = fit_append w (joints_of (locations u) t vs) (joints (locations u) ts vs) (row_fits t vs h.0 k) (joints_fit ts vs h.1 k)

-- ---- They overlap only where a sheet's own do

overlaps_part : (t : Transition) (us vs : List Transition) → OverlapsOne t (us ++ vs) → OverlapsOne t us ⊎ OverlapsOne t vs
overlaps_part t [] vs h = inr h
overlaps_part t (u ∷ us) vs (inl h) = inl (inl h)
overlaps_part t (u ∷ us) vs (inr h) = elim (overlaps_part t us vs h) [ inl k ↦ inl (inr k) | inr k ↦ inr k ]

-- Whether a transition is enabled rests on each clock's reading.
enabled_tests : (t : Transition) (x y : ℕ) → Tests (enabled t x y) (T (within t.low1 t.high1 x) × T (within t.low2 t.high2 y))
enabled_tests t x y = both_tests (T-tests (within t.low1 t.high1 x)) (T-tests (within t.low2 t.high2 y))

-- With one clock, on its reading alone.
one_enabled : (t : Transition) → OneClock t → (x : ℕ) → T (within t.low1 t.high1 x) → T (enabled t x 0)
one_enabled t o x h = subst⁻¹ T (enabled_first t x 0 o) h

module _ (n : ℕ) (t v p q : Transition) (h : Overlap (joint n t v) (joint n p q)) where
  one : T (within t.low1 t.high1 h.x) × T (within v.low1 v.high1 h.y)
  one = proved (enabled_tests (joint n t v) h.x h.y) h.enables_one

  other : T (within p.low1 p.high1 h.x) × T (within q.low1 q.high1 h.y)
  other = proved (enabled_tests (joint n p q) h.x h.y) h.enables_other

  first_overlap : OneClock t → OneClock p → Overlap t p
  first_overlap a b = record { same_action = h.same_action; x = h.x; y = 0; enables_one = one_enabled t a h.x one.0; enables_other = one_enabled p b h.x other.0 }

  second_overlap : t.action ≡ v.action → p.action ≡ q.action → OneClock v → OneClock q → Overlap v q
  second_overlap c d a b = record { same_action = sym c ∙ h.same_action ∙ d; x = h.y; y = 0; enables_one = one_enabled v a h.y one.1; enables_other = one_enabled q b h.y other.1 }

module _ (s u : Bytes) (n : ℕ) (one-s : clocks s ≡ 1) (one-u : clocks u ≡ 1) where
  -- One joint with another of the same first transition.
  row_second : (t v : Transition) (vs : List Transition) → t.action ≡ v.action → Fits u v → AllFit u vs → OverlapsOne (joint n t v) (joints_of n t vs) → OverlapsOne v vs
  unfolding joints_of
  row_second t v [] e h k o = o
  row_second t v (q ∷ vs) e h k o = go (eqb t.action q.action) (eqb_tests t.action q.action) (row_second t v vs e h k.1) o
    where
      go : (b : Bool) → Tests b (t.action ≡ q.action) → (OverlapsOne (joint n t v) (joints_of n t vs) → OverlapsOne v vs)
          → OverlapsOne (joint n t v) (cond b (joint n t q ∷ joints_of n t vs) (joints_of n t vs)) → OverlapsOne v (q ∷ vs)
      go true f r (inl m) = inl (second_overlap n t v t q m e (f.passes refl) (h.one_clock one-u) (k.0.one_clock one-u))
      go true f r (inr m) = inr (r m)
      go false f r m = inr (r m)

  -- With one of another first transition.
  row_first : (t v p : Transition) (vs : List Transition) → Fits s t → Fits s p → OverlapsOne (joint n t v) (joints_of n p vs) → Overlap t p
  unfolding joints_of
  row_first t v p [] h k o = absurd o
  row_first t v p (q ∷ vs) h k o = go (eqb p.action q.action) (row_first t v p vs h k) o
    where
      go : (b : Bool) → (OverlapsOne (joint n t v) (joints_of n p vs) → Overlap t p) → OverlapsOne (joint n t v) (cond b (joint n p q ∷ joints_of n p vs) (joints_of n p vs)) → Overlap t p
      go true r (inl m) = first_overlap n t v p q m (h.one_clock one-s) (k.one_clock one-s)
      go true r (inr m) = r m
      go false r m = r m

  later_first : (t v : Transition) (ts vs : List Transition) → Fits s t → AllFit s ts → OverlapsOne (joint n t v) (joints n ts vs) → OverlapsOne t ts
  unfolding joints
  later_first t v [] vs h k o = o
  later_first t v (p ∷ ts) vs h k o =
      elim (overlaps_part (joint n t v) (joints_of n p vs) (joints n ts vs) o) [ inl m ↦ inl (row_first t v p vs h k.0 m) | inr m ↦ inr (later_first t v ts vs h k.1 m) ]

  -- The joints of a transition, before those of later ones: it overlaps a later one, two of the second sheet's do, or two of the later joints do.
  abbrev Found : Transition → List Transition → List Transition → List Transition → Type 0
  Found t us ts vs = OverlapsOne t ts ⊎ (OverlapIn us ⊎ OverlapIn (joints n ts vs))

  row_overlap : (t : Transition) (us ts vs : List Transition) → Fits s t → AllFit s ts → AllFit u us → OverlapIn (joints_of n t us ++ joints n ts vs) → Found t us ts vs
  unfolding joints_of
  row_overlap t [] ts vs h k l o = inr (inr o)
  row_overlap t (v ∷ us) ts vs h k l o = go (eqb t.action v.action) (eqb_tests t.action v.action) (λ m. later (row_overlap t us ts vs h k l.1 m)) o
    where
      later : Found t us ts vs → Found t (v ∷ us) ts vs
      later (inl x) = inl x
      later (inr (inl x)) = inr (inl (inr x))
      later (inr (inr x)) = inr (inr x)

      go : (b : Bool) → Tests b (t.action ≡ v.action) → (OverlapIn (joints_of n t us ++ joints n ts vs) → Found t (v ∷ us) ts vs)
          → OverlapIn (cond b (joint n t v ∷ joints_of n t us) (joints_of n t us) ++ joints n ts vs) → Found t (v ∷ us) ts vs
      go true f r (inl m) =
          elim (overlaps_part (joint n t v) (joints_of n t us) (joints n ts vs) m) [ inl x ↦ inr (inl (inl (row_second t v us (f.passes refl) l.0 l.1 x))) | inr x ↦ inl (later_first t v ts vs h k x) ]
      go true f r (inr m) = r m
      go false f r m = r m

  pub joints_overlap : (ts vs : List Transition) → AllFit s ts → AllFit u vs → OverlapIn (joints n ts vs) → OverlapIn ts ⊎ OverlapIn vs
  unfolding joints
  joints_overlap [] vs h k o = absurd o
  joints_overlap (t ∷ ts) vs h k o = go (row_overlap t vs ts vs h.0 h.1 k o) (joints_overlap ts vs h.1 k)
    where
      go : Found t vs ts vs → (OverlapIn (joints n ts vs) → OverlapIn ts ⊎ OverlapIn vs) → OverlapIn (t ∷ ts) ⊎ OverlapIn vs
      go (inl x) r = inl (inl x)
      go (inr (inl x)) r = inr x
      go (inr (inr x)) r = elim (r x) [ inl y ↦ inl (inr y) | inr y ↦ inr y ]
