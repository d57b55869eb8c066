-- The places of a location's transitions, and the list of them.
-- Assumes nothing.
use mathlib.Core.Path.{◌≡◌, refl, ap, subst}
use mathlib.Core.List.{List, [], ◌∷◌, ◌++◌}
use Prim.Native.Nat.{ℕ, zero, suc, ◌+◌, ◌*◌, ◌-◌, ◌≤◌, ◌<◌, ◌/◌}
use native.Mathlib.Omega.{arith}
use lib.ListN.{length}
use Rattle.enforcement.specs.Automaton.{Bytes, Transition, locations, offset, size, transition_at, transitions_from, transitions}
use Rattle.enforcement.specs.Loading.{WellFormed, Fits, AllFit, Bounded}
use Rattle.enforcement.proofs.Pairs.{transitions_known, layout_inside}
use Rattle.enforcement.proofs.Loading.{layout, bounded}
use Rattle.retimer.specs.Live.{Place}

-- A list with an element in it.
pub record Split (ts : List Transition) (u : Transition) : Type 0 where
  pub left : List Transition
  pub right : List Transition
  pub is : ts ≡ left ++ (u ∷ right)

from_split : (s : Bytes) (n k p : ℕ) → k < n → Split (transitions_from s n p) (transition_at s (p + 7 * k))
from_split s zero k p h = absurd (omega arith)
from_split s (suc n) zero p h = let e : p + 7 * 0 ≡ p = omega arith in record { left = []; right = transitions_from s n (p + 7); is = rw e refl }
from_split s (suc n) (suc k) p h =
    let r = from_split s n k (p + 7) (omega arith) in
    let e : p + 7 * suc k ≡ p + 7 + 7 * k = omega arith in
    record { left = transition_at s p ∷ r.left; right = r.right; is = rw e (ap (λ (ts : List Transition). transition_at s p ∷ ts) r.is) }

-- Something holds of every transition of a list.
abbrev pub Every : (Transition → Type 0) → List Transition → Type 0
Every P [] = Unit {0}
Every P (u ∷ us) = P u × Every P us

from_every : (P : Transition → Type 0) (s : Bytes) (n p : ℕ) → ((k : ℕ) → k < n → P (transition_at s (p + 7 * k))) → Every P (transitions_from s n p)
from_every P s zero p f = tt
from_every P s (suc n) p f =
    let e : p + 7 * 0 ≡ p = omega arith in
    (rw e at (f 0 (omega arith)), from_every P s n (p + 7) (λ k h. let d : p + 7 * suc k ≡ p + 7 + 7 * k = omega arith in rw d at (f (suc k) (omega arith))))

fits_in : (s : Bytes) (us : List Transition) (u : Transition) (ws : List Transition) → AllFit s (us ++ (u ∷ ws)) → Fits s u
fits_in s [] u ws f = f.0
fits_in s (v ∷ us) u ws f = fits_in s us u ws f.1

module _ (s : Bytes) (loads : WellFormed s) (l : ℕ) (h : l < locations s) where
  -- The transition at a place stands in the list.
  pub place_split : (q : ℕ) → Place s l q → Split (transitions s l) (transition_at s q)
  place_split q r =
      let k : ℕ = (q - offset s l) / 7 in
      let e : offset s l + 7 * k ≡ q = omega (arith, r.after, r.whole) in
      let w = (layout s loads).whole l h in
      rw (transitions_known s l h, ← e) (from_split s (size s l / 7) k (offset s l) (omega (arith, r.inside, r.after, r.whole)))

  pub place_fits : (q : ℕ) → Place s l q → Fits s (transition_at s q)
  unfolding Bounded
  place_fits q r = let d = place_split q r in fits_in s d.left (transition_at s q) d.right (subst (AllFit s) d.is (bounded s loads l))

  pub place_inside : (q : ℕ) → Place s l q → q + 7 ≤ length s
  place_inside q r = omega (arith, r.inside, r.after, r.whole, (layout s loads).whole l h, layout_inside s (layout s loads) l h)

  -- What holds at every place holds of every transition.
  pub places_every : (P : Transition → Type 0) → ((q : ℕ) → Place s l q → P (transition_at s q)) → Every P (transitions s l)
  places_every P f =
      let w = (layout s loads).whole l h in
      rw (transitions_known s l h) (from_every P s (size s l / 7) (offset s l) (λ k g. f (offset s l + 7 * k) (record { after = omega arith; inside = omega arith; whole = omega arith })))
