-- Overlaps of transitions: the test, and that where there is none at most one transition is enabled.
-- Assumes nothing.
use mathlib.Core.Path.{◌≡◌, refl, ap, sym, ◌∙◌, subst}
use mathlib.Core.Bool.{Bool, true, false, cond, ◌&&◌}
use mathlib.Core.List.{List, [], ◌∷◌, ◌++◌}
use mathlib.Core.Option.{some}
use mathlib.Core.Logic.{◌⊎◌, inl, inr}
use Prim.Native.Nat.{ℕ, zero, suc, ◌+◌, ◌≤◌, max}
use native.Mathlib.Omega.{arith}
use native.Mathlib.Nat.{eq-or-lt_of_le}
use lib.Dec.{T, leb, eqb}
use Rattle.enforcement.specs.Automaton.{Bytes, locations, Transition, transitions, all_transitions, within, enabled}
use Rattle.enforcement.specs.TimedWord.{Configuration, fire, fire_first, step}
use Rattle.enforcement.specs.Loading.{BoundsUpTo, FitsUpTo, AllFitUpTo, Overlap, OverlapsOne, OverlapIn, overlap, overlaps_none, disjoint, disjoint_over, Deterministic}
use Rattle.enforcement.proofs.Tests.{Tests, Finds, true_false, T-tests, leb_tests, eqb_tests, both_tests, both_finds, tests_same, finds_same, finds_opposite, proved, test_true, shown}
use Rattle.enforcement.proofs.Comparisons.{within_tests}
use Rattle.enforcement.proofs.Pairs.{transitions_none}
use Rattle.enforcement.proofs.Fitting.{each_fits}

-- ---- The test, of transitions whose bounds are up to 255: a high of 255 is above every low.

-- Some reading lies within both bounds.
abbrev Meet : ℕ → ℕ → ℕ → ℕ → Type 0
Meet a b c d = (x : ℕ) × T (within a b x) × T (within c d x)

meet_tests : (a b c d : ℕ) → BoundsUpTo 255 a b → BoundsUpTo 255 c d → Tests (leb a d && leb c b) (Meet a b c d)
meet_tests a b c d h k = tests_same both_low meeting (both_tests (leb_tests a d) (leb_tests c b))
  where
    both_low : (a ≤ d) × (c ≤ b) → Meet a b c d
    both_low x = (max a c, shown (within_tests a b (max a c)) (omega arith, inr (omega (arith, h.ordered))), shown (within_tests c d (max a c)) (omega arith, inr (omega (arith, k.ordered))))

    reach : (low high x : ℕ) → low ≤ 255 → low ≤ x → (high ≡ 255) ⊎ (x ≤ high) → low ≤ high
    reach low high x l m (inl e) = omega arith
    reach low high x l m (inr e) = omega arith

    meeting : Meet a b c d → (a ≤ d) × (c ≤ b)
    meeting m =
        let u = proved (within_tests a b m.0) m.1 in
        let v = proved (within_tests c d m.0) m.2 in
        (reach a d m.0 h.low_fits u.0 v.1, reach c b m.0 k.low_fits v.0 u.1)

enabled_tests : (t : Transition) (x y : ℕ) → Tests (enabled t x y) (T (within t.low1 t.high1 x) × T (within t.low2 t.high2 y))
enabled_tests t x y = both_tests (T-tests (within t.low1 t.high1 x)) (T-tests (within t.low2 t.high2 y))

overlap_tests : (s : Bytes) (t u : Transition) → FitsUpTo 255 s t → FitsUpTo 255 s u → Tests (overlap t u) (Overlap t u)
unfolding overlap
overlap_tests s t u h k =
    tests_same
    (λ m. let a = m.1.0 in let b = m.1.1 in record { same_action = m.0; x = a.0; y = b.0; enables_one = shown (enabled_tests t a.0 b.0) (a.1, b.1); enables_other = shown (enabled_tests u a.0 b.0) (a.2, b.2) })
    (λ m. let a = proved (enabled_tests t m.x m.y) m.enables_one in let b = proved (enabled_tests u m.x m.y) m.enables_other in (m.same_action, ((m.x, a.0, b.0), (m.y, a.1, b.1))))
    (both_tests (eqb_tests t.action u.action) (both_tests (meet_tests t.low1 t.high1 u.low1 u.high1 h.first k.first) (meet_tests t.low2 t.high2 u.low2 u.high2 h.second k.second)))

none_finds : (s : Bytes) (t : Transition) (us : List Transition) → FitsUpTo 255 s t → AllFitUpTo 255 s us → Finds (overlaps_none t us) (OverlapsOne t us)
unfolding overlaps_none
none_finds s t [] h k = record { passes = λ e x. x; fails = λ e. true_false refl e }
none_finds s t (u ∷ us) h k = both_finds (finds_opposite (overlap_tests s t u h k.0)) (none_finds s t us h k.1)

disjoint_finds : (s : Bytes) (ts : List Transition) → AllFitUpTo 255 s ts → Finds (disjoint ts) (OverlapIn ts)
unfolding disjoint
disjoint_finds s [] h = record { passes = λ e x. x; fails = λ e. true_false refl e }
disjoint_finds s (t ∷ ts) h = both_finds (none_finds s t ts h.0 h.1) (disjoint_finds s ts h.1)

over_finds : (s : Bytes) (n l : ℕ) → ((k : ℕ) → AllFitUpTo 255 s (transitions s k)) → l + n ≡ locations s → Finds (disjoint_over s n l) ((k : ℕ) × (l ≤ k) × OverlapIn (transitions s k))
unfolding disjoint_over
over_finds s zero l h e = record { passes = λ f m. subst OverlapIn (transitions_none s m.0 (omega (arith, m.1))) m.2; fails = λ f. true_false refl f }
over_finds s (suc n) l h e = finds_same here there (both_finds (disjoint_finds s (transitions s l) (h l)) (over_finds s n (suc l) h (omega arith)))
  where
    here : OverlapIn (transitions s l) ⊎ ((k : ℕ) × (suc l ≤ k) × OverlapIn (transitions s k)) → (k : ℕ) × (l ≤ k) × OverlapIn (transitions s k)
    here (inl m) = (l, omega arith, m)
    here (inr m) = (m.0, omega (arith, m.1), m.2)

    there : (k : ℕ) × (l ≤ k) × OverlapIn (transitions s k) → OverlapIn (transitions s l) ⊎ ((k : ℕ) × (suc l ≤ k) × OverlapIn (transitions s k))
    there m = elim (eq-or-lt_of_le m.1) [ inl q ↦ inl (subst (λ (k : ℕ). OverlapIn (transitions s k)) (sym q) m.2) | inr q ↦ inr (m.0, q, m.2) ]

pub overlap_finds : (s : Bytes) → AllFitUpTo 255 s (all_transitions s) → Finds (disjoint_over s (locations s) 0) ((l : ℕ) × OverlapIn (transitions s l))
overlap_finds s h = finds_same (λ m. (m.0, m.2)) (λ m. (m.0, omega arith, m.1)) (over_finds s (locations s) 0 (each_fits 255 s h) (omega arith))

-- ---- At most one is enabled

overlaps_later : (t u : Transition) (vs ws : List Transition) → Overlap t u → OverlapsOne t (vs ++ (u ∷ ws))
overlaps_later t u [] ws h = inl h
overlaps_later t u (v ∷ vs) ws h = inr (overlaps_later t u vs ws h)

overlap_later : (us vs : List Transition) → OverlapIn vs → OverlapIn (us ++ vs)
overlap_later [] vs h = h
overlap_later (u ∷ us) vs h = inr (overlap_later us vs h)

-- Two transitions at different places of one location that have one action are not both enabled.
pub only_one : (s : Bytes) → Deterministic s → (l x y : ℕ) (us : List Transition) (t : Transition) (vs : List Transition) (u : Transition) (ws : List Transition)
    → transitions s l ≡ us ++ (t ∷ (vs ++ (u ∷ ws))) → t.action ≡ u.action → T (enabled t x y) → T (enabled u x y) → ⊥
unfolding Deterministic
only_one s d l x y us t vs u ws e a h k =
    let o : Overlap t u = record { same_action = a; x = x; y = y; enables_one = h; enables_other = k } in
    d l (subst OverlapIn (sym e) (overlap_later us (t ∷ (vs ++ (u ∷ ws))) (inl (overlaps_later t u vs ws o))))

fires_tests : (t : Transition) (c : ℕ) (p : Configuration) → Tests (eqb t.action c && enabled t p.x p.y) ((t.action ≡ c) × T (enabled t p.x p.y))
fires_tests t c p = both_tests (eqb_tests t.action c) (T-tests (enabled t p.x p.y))

-- So one that is enabled is taken, wherever it stands.
pub only_fires : (us : List Transition) (t : Transition) (ws : List Transition) → (OverlapIn (us ++ (t ∷ ws)) → ⊥) → (p : Configuration) → T (enabled t p.x p.y) → fire_first (us ++ (t ∷ ws)) t.action p ≡ some (fire t p)
unfolding fire_first
only_fires [] t ws d p h = ap (λ (b : Bool). cond b (some (fire t p)) (fire_first ws t.action p)) (test_true (fires_tests t t.action p) (refl, h))
only_fires (u ∷ us) t ws d p h = go (eqb u.action t.action && enabled u p.x p.y) (fires_tests u t.action p) (only_fires us t ws (λ k. d (inr k)) p h)
  where
    go : (b : Bool) → Tests b ((u.action ≡ t.action) × T (enabled u p.x p.y)) → fire_first (us ++ (t ∷ ws)) t.action p ≡ some (fire t p) → cond b (some (fire u p)) (fire_first (us ++ (t ∷ ws)) t.action p) ≡ some (fire t p)
    go true f r =
        let k = f.passes refl in
        absurd (d (inl (overlaps_later u t us ws (record { same_action = k.0; x = p.x; y = p.y; enables_one = k.1; enables_other = h }))))
    go false f r = r

pub only_step : (s : Bytes) → Deterministic s → (l : ℕ) (p : Configuration) → p.location ≡ l → (us : List Transition) (t : Transition) (ws : List Transition) → transitions s l ≡ us ++ (t ∷ ws)
    → T (enabled t p.x p.y) → step s t.action p ≡ some (fire t p)
unfolding step Deterministic
only_step s d l p q us t ws e h = ap (λ (k : ℕ). fire_first (transitions s k) t.action p) q ∙ ap (λ (ts : List Transition). fire_first ts t.action p) e ∙ only_fires us t ws (λ k. d l (subst OverlapIn (sym e) k)) p h
