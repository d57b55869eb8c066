-- The waits at which a transition is enabled are an interval, from its first wait to below its end.
-- Assumes nothing.
use mathlib.Core.Path.{◌≡◌, ◌∙◌}
use mathlib.Core.Logic.{◌⊎◌, inl, inr}
use Prim.Native.Nat.{ℕ, ◌+◌, ◌≤◌, ◌<◌, min}
use native.Mathlib.Omega.{arith}
use Rattle.enforcement.specs.Limits.{max_bound}
use Rattle.enforcement.specs.Automaton.{Transition, within, enabled}
use Rattle.enforcement.specs.Loading.{Bounds}
use Rattle.enforcement.specs.Model.{top}
use Rattle.enforcement.proofs.Tests.{Tests, both_tests, tests_same}
use Rattle.enforcement.proofs.Comparisons.{within_tests}
use Rattle.retimer.specs.Waits.{saturation, first_wait, end_of, end_wait}

-- ---- One clock

-- A reading that n ticks have passed since x, saturated or not: the bounds see it as the exact reading.
within_wait : (low high x u : ℕ) → Bounds low high → x ≤ top → u ≤ top → Tests (within low high (min (x + u) top)) ((low ≤ x + u) × (x + u ≤ high))
within_wait low high x u b h k =
    tests_same (λ w. (omega (arith, w.0), go b.high_fits w.1)) (λ w. (omega (arith, w.0, b.low_fits), back w.1))
    (within_tests low high (min (x + u) top))
  where
    go : (high ≤ max_bound) ⊎ (high ≡ 255) → (high ≡ 255) ⊎ (min (x + u) top ≤ high) → x + u ≤ high
    go (inl f) (inl e) = omega arith
    go (inl f) (inr l) = omega arith
    go (inr f) (inl e) = omega arith
    go (inr f) (inr l) = omega arith

    back : x + u ≤ high → (high ≡ 255) ⊎ (min (x + u) top ≤ high)
    back l = inr (omega arith)

-- ---- The ends of the interval

pub first_is : (t : Transition) (x y u : ℕ) → (first_wait t x y ≤ u) → (t.low1 ≤ x + u) × (t.low2 ≤ y + u)
unfolding first_wait
first_is t x y u h = (omega arith, omega arith)

pub is_first : (t : Transition) (x y u : ℕ) → t.low1 ≤ x + u → t.low2 ≤ y + u → first_wait t x y ≤ u
unfolding first_wait
is_first t x y u h k = omega arith

of_is : (high x cap u : ℕ) → u < end_of high x cap → (x + u ≤ high) × (u ≤ cap)
unfolding end_of
of_is high x cap u h = (omega arith, omega arith)

is_of : (high x cap u : ℕ) → x + u ≤ high → u ≤ cap → u < end_of high x cap
unfolding end_of
is_of high x cap u h k = omega arith

pub end_is : (t : Transition) (x y u : ℕ) → u < end_wait t x y → (x + u ≤ t.high1) × (y + u ≤ t.high2) × (u ≤ saturation x y)
unfolding end_wait
end_is t x y u h =
    let a = of_is t.high1 x (saturation x y) u (omega arith) in
    let b = of_is t.high2 y (saturation x y) u (omega arith) in
    (a.0, b.0, a.1)

pub is_end : (t : Transition) (x y u : ℕ) → x + u ≤ t.high1 → y + u ≤ t.high2 → u ≤ saturation x y → u < end_wait t x y
unfolding end_wait
is_end t x y u h k l =
    let a = is_of t.high1 x (saturation x y) u h l in
    let b = is_of t.high2 y (saturation x y) u k l in
    omega arith

-- ---- The interval

-- Up to saturation, a transition is enabled exactly from its first wait to below its end.
pub interval : (t : Transition) (x y u : ℕ) → Bounds t.low1 t.high1 → Bounds t.low2 t.high2 → x ≤ top → y ≤ top → u ≤ saturation x y
    → Tests (enabled t (min (x + u) top) (min (y + u) top)) ((first_wait t x y ≤ u) × (u < end_wait t x y))
interval t x y u a b h k l =
    tests_same
    (λ w. (is_first t x y u w.0.0 w.1.0, is_end t x y u w.0.1 w.1.1 l))
    (λ w. let f = first_is t x y u w.0 in let e = end_is t x y u w.1 in ((f.0, e.0), (f.1, e.1)))
    (both_tests (within_wait t.low1 t.high1 x u a h (omega arith)) (within_wait t.low2 t.high2 y u b k (omega arith)))

-- ---- As the code builds it

pub end_built : (t : Transition) (x y cap a b v : ℕ) → cap ≡ saturation x y → a ≡ end_of t.high1 x cap → b ≡ end_of t.high2 y cap → v ≡ min a b → v ≡ end_wait t x y
unfolding end_wait
end_built t x y cap a b v e f g h = h ∙ rw (f, g, e)
