-- Laws of the load check, over plain numbers and lists.
-- Assumes nothing.
use mathlib.Core.Path.{◌≡◌, refl, ap, ap₂, sym, ◌∙◌}
use mathlib.Core.Bool.{Bool, true, false, ◌&&◌, not}
use mathlib.Core.List.{List, [], ◌∷◌, ◌++◌}
use Prim.Native.Nat.{ℕ, zero, suc, ◌+◌, ◌-◌, ◌*◌, ◌/◌, ◌%◌, ◌^◌, ◌≤◌, ◌<◌}
use native.Mathlib.Omega.{arith}
use native.Mathlib.Nat.{mod-eq_of_lt, add-zero, zero-add, one-mul}
use native.Mathlib.Numerals.{add-one, sub-one}
use lib.Dec.{leb, eqb}
use lib.ListN.{length, length-append}
use lib.Pow.{pow-lt}
use borrow.Author.Tests.{eq-eqb, ne_eqb}
use Rattle.enforcement.specs.Limits.{max_count, max_transitions, max_size}
use Rattle.enforcement.specs.Automaton.{Bytes, locations, clocks, actions, offset, size, Transition, transition_at, transitions_from, transitions, transitions_over, all_transitions}
use Rattle.enforcement.specs.Loading.{Layout, end_before, size_passes, header_passes, layout_passes, pairs_pass, fits, all_fit_up_to, all_fit, overlap, overlaps_none, disjoint, disjoint_over}
use Rattle.enforcement.proofs.Tests.{Tests, leb_tests, both_tests}
use Rattle.enforcement.proofs.Pairs.{layout_tests, transitions_known, transitions_length}
use Rattle.retimer.specs.Checked.{Headed, LaidOut}

-- ---- Tests in a row

-- A test's outcome, from a callee's answer and the branch on its negation.
pub failed : {r a : Bool} → r ≡ a → r ≡ false → a ≡ false
failed e h = sym e ∙ h

pub passed : {r a : Bool} → r ≡ a → r ≡ true → a ≡ true
passed e h = sym e ∙ h

-- The first of two tests fails; it passes, and the rest decides.
pub stops : {a : Bool} (b : Bool) → a ≡ false → false ≡ a && b
stops b e = rw e

pub goes : {a b r : Bool} → a ≡ true → r ≡ b → r ≡ a && b
goes e h = rw e h

-- The same of a test that is negated.
pub found : {r a : Bool} → r ≡ a → r ≡ true → not a ≡ false
found e h = rw (sym e ∙ h)

pub missed : {r a : Bool} → r ≡ a → r ≡ false → not a ≡ true
missed e h = rw (sym e ∙ h)

-- ---- What the tests give

-- The bytes after I-1, the header after I-2, and the layout after the pairs and after I-4.
pub size_fits : (s : Bytes) → size_passes s ≡ true → (6 ≤ length s) × (length s ≤ max_size)
unfolding size_passes
size_fits s = (both_tests (leb_tests 6 (length s)) (leb_tests (length s) max_size)).passes

range : (a n b : ℕ) → Tests (leb a n && leb n b) ((a ≤ n) × (n ≤ b))
range a n b = both_tests (leb_tests a n) (leb_tests n b)

pub headed : (s : Bytes) → size_passes s ≡ true → header_passes s ≡ true → Headed s
unfolding header_passes
headed s e f =
    let h = size_fits s e in
    let k = (both_tests (range 1 (locations s) max_count) (both_tests (range 1 (clocks s) 2) (range 1 (actions s) max_count))).passes f in
    record {
      long = h.0;
      short = h.1;
      header = record { a_location = k.0.0; locations_fit = k.0.1; a_clock = k.1.0.0; clocks_fit = k.1.0.1; an_action = k.1.1.0; actions_fit = k.1.1.1 };
    }

pub laid_out : (s : Bytes) → Headed s → pairs_pass s (locations s) 0 (6 + 4 * locations s) ≡ true → LaidOut s
laid_out s h e = record { headed = h; layout = (layout_tests s).passes e }

pub layout_passed : (s : Bytes) → Headed s → layout_passes s ≡ true → LaidOut s
unfolding layout_passes
layout_passed s h e = record { headed = h; layout = ((both_tests (leb_tests (6 + 4 * locations s) (length s)) (both_tests (layout_tests s) (leb_tests (length (all_transitions s)) max_transitions))).passes e).1.0 }

-- The power of two that a shift gives.
pub shifted : (n : ℕ) → n ≤ max_count → 1 * 2 ^ n % 2 ^ 64 ≡ 2 ^ n
shifted n h = rw (one-mul, mod-eq_of_lt (pow-lt (lt64 n h)))
  where
    lt64 : (m : ℕ) → m ≤ max_count → m < 64
    lt64 m k = omega arith

-- ---- Transitions that lie back to back

pub from_step : (s : Bytes) (n p : ℕ) → 0 < n → transitions_from s n p ≡ transition_at s p ∷ transitions_from s (n - 1) (p + 7)
from_step s zero p h = absurd (omega arith)
from_step s (suc n) p h = rw sub-one

from_append : (s : Bytes) (m n p : ℕ) → transitions_from s m p ++ transitions_from s n (p + 7 * m) ≡ transitions_from s (m + n) p
from_append s zero n p = rw (add-zero, zero-add)
from_append s (suc m) n p =
    let e : p + 7 * suc m ≡ p + 7 + 7 * m = omega arith in
    let g : suc m + n ≡ suc (m + n) = omega arith in
    rw (e, g) (ap (λ (ts : List Transition). transition_at s p ∷ ts) (from_append s m n (p + 7)))

over_from : (s : Bytes) → Layout s → (n l : ℕ) → l + n ≡ locations s → transitions_over s n l ≡ transitions_from s (length (transitions_over s n l)) (end_before s l)
unfolding transitions_over
over_from s y zero l h = refl
over_from s y (suc n) l h =
    let k : l < locations s = omega arith in
    let a : ℕ = size s l / 7 in
    let r : List Transition = transitions_over s n (suc l) in
    let e : offset s l + size s l ≡ end_before s l + 7 * a = omega (arith, y.adjacent l k, y.whole l k) in
    let count : length (transitions s l ++ r) ≡ a + length r = length-append (transitions s l) r ∙ ap (λ (m : ℕ). m + length r) (transitions_length s l k) in
    let here : transitions s l ≡ transitions_from s a (end_before s l) = transitions_known s l k ∙ ap (transitions_from s a) (y.adjacent l k) in
    let there : r ≡ transitions_from s (length r) (end_before s l + 7 * a) = over_from s y n (suc l) (omega arith) ∙ ap (transitions_from s (length r)) e in
    ap₂ ◌++◌ here there ∙ from_append s a (length r) (end_before s l) ∙ ap (λ (m : ℕ). transitions_from s m (end_before s l)) (sym count)

-- All transitions, read from the end of the pairs on.
pub all_from : (s : Bytes) → Layout s → (n p : ℕ) → n ≡ length (all_transitions s) → p ≡ 6 + 4 * locations s → transitions_from s n p ≡ all_transitions s
all_from s y n p e f = rw (e, f) (sym (over_from s y (locations s) 0 (omega arith)))

-- A test of a list goes on by a test of its head.
pub record Each (f : List Transition → Bool) (g : Transition → List Transition → Bool) : Type 0 where
  pub none : f [] ≡ true
  pub more : (t : Transition) (ts : List Transition) → f (t ∷ ts) ≡ g t ts && f ts

pub fit_each : (s : Bytes) → Each (all_fit s) (λ t ts. fits s t)
unfolding all_fit_up_to
fit_each s = record { none = refl; more = λ t ts. refl }

pub overlap_each : (t : Transition) → Each (overlaps_none t) (λ u us. not (overlap t u))
unfolding overlaps_none
overlap_each t = record { none = refl; more = λ u us. refl }

pub disjoint_each : Each disjoint overlaps_none
unfolding disjoint
disjoint_each = record { none = refl; more = λ t ts. refl }

-- The transitions from the k-th of n on.
abbrev pub rest_from : Bytes → ℕ → ℕ → ℕ → List Transition
rest_from s n first k = transitions_from s (n - k) (first + 7 * k)

rest_step : (s : Bytes) (n first k : ℕ) → k < n → rest_from s n first k ≡ transition_at s (first + 7 * k) ∷ rest_from s n first (k + 1)
rest_step s n first k h =
    let e : n - k - 1 ≡ n - (k + 1) = omega arith in
    let p : first + 7 * k + 7 ≡ first + 7 * (k + 1) = omega arith in
    from_step s (n - k) (first + 7 * k) (omega arith) ∙ ap₂ (λ (m q : ℕ). transition_at s (first + 7 * k) ∷ transitions_from s m q) e p

-- The transitions after the k-th, by its own place.
pub after_step : (s : Bytes) (n first k : ℕ) → overlaps_none (transition_at s (first + 7 * k)) (rest_from s n first (k + 1)) ≡ overlaps_none (transition_at s (first + 7 * k)) (transitions_from s (n - (k + 1)) (first + 7 * k + 7))
after_step s n first k = let e : first + 7 * (k + 1) ≡ first + 7 * k + 7 = omega arith in rw e

module _ {f : List Transition → Bool} {g : Transition → List Transition → Bool} (e : Each f g) (s : Bytes) (n first k : ℕ) where
  pub each_all : f (rest_from s n first 0) ≡ f (transitions_from s n first)
  each_all = let y : n - 0 ≡ n = omega arith in let z : first + 7 * 0 ≡ first = omega arith in rw (y, z)

  pub each_none : n ≤ k → true ≡ f (rest_from s n first k)
  each_none h = let z : n - k ≡ 0 = omega arith in rw z (sym e.none)

  each_step : k < n → f (rest_from s n first k) ≡ g (transition_at s (first + 7 * k)) (rest_from s n first (k + 1)) && f (rest_from s n first (k + 1))
  each_step h = ap f (rest_step s n first k h) ∙ e.more _ _

  pub each_stops : k < n → g (transition_at s (first + 7 * k)) (rest_from s n first (k + 1)) ≡ false → false ≡ f (rest_from s n first k)
  each_stops h z = stops _ z ∙ sym (each_step h)

  pub each_goes : k < n → g (transition_at s (first + 7 * k)) (rest_from s n first (k + 1)) ≡ true → f (rest_from s n first (k + 1)) ≡ f (rest_from s n first k)
  each_goes h z = goes z refl ∙ sym (each_step h)

-- ---- Locations in a row

left_suc : (m l : ℕ) → l < m → m - l ≡ suc (m - (l + 1))
left_suc m l h = omega arith

module _ (s : Bytes) (m l : ℕ) (h : l < m) where
  disjoint_step : disjoint_over s (m - l) l ≡ disjoint (transitions s l) && disjoint_over s (m - (l + 1)) (l + 1)
  unfolding disjoint_over
  disjoint_step = rw (left_suc m l h, add-one l)

  pub disjoint_stops : disjoint (transitions s l) ≡ false → false ≡ disjoint_over s (m - l) l
  disjoint_stops e = stops _ e ∙ sym disjoint_step

  pub disjoint_goes : disjoint (transitions s l) ≡ true → disjoint_over s (m - (l + 1)) (l + 1) ≡ disjoint_over s (m - l) l
  disjoint_goes e = goes e refl ∙ sym disjoint_step

  pairs_step : (e : ℕ) → pairs_pass s (m - l) l e ≡ eqb (offset s l) e && (eqb (size s l % 7) 0 && pairs_pass s (m - (l + 1)) (l + 1) (e + size s l))
  unfolding pairs_pass
  pairs_step e = rw (left_suc m l h, add-one l)

  module _ (o e : ℕ) (p : o ≡ offset s l) where
    pub pairs_apart : (o ≡ e → ⊥) → false ≡ pairs_pass s (m - l) l e
    pairs_apart k = stops _ (ne_eqb (offset s l) e (λ g. k (p ∙ g))) ∙ sym (pairs_step e)

    module _ (g : o ≡ e) (z : ℕ) (q : z ≡ size s l) where
      pub pairs_broken : (z % 7 ≡ 0 → ⊥) → false ≡ pairs_pass s (m - l) l e
      pairs_broken k = goes (eq-eqb (offset s l) e (sym p ∙ g)) (stops _ (ne_eqb (size s l % 7) 0 (λ d. k (rw q d)))) ∙ sym (pairs_step e)

      pub pairs_go : z % 7 ≡ 0 → pairs_pass s (m - (l + 1)) (l + 1) (e + z) ≡ pairs_pass s (m - l) l e
      pairs_go k = rw q (goes (eq-eqb (offset s l) e (sym p ∙ g)) (goes (eq-eqb (size s l % 7) 0 (rw q at k)) refl) ∙ sym (pairs_step e))

pub disjoint_none : (s : Bytes) (m l : ℕ) → m ≤ l → true ≡ disjoint_over s (m - l) l
unfolding disjoint_over
disjoint_none s m l h = let e : m - l ≡ 0 = omega arith in rw e

pub pairs_end : (s : Bytes) (m l e : ℕ) → m ≤ l → eqb e (length s) ≡ pairs_pass s (m - l) l e
unfolding pairs_pass
pairs_end s m l e h = let z : m - l ≡ 0 = omega arith in rw z

-- The transitions of a location, by the numbers of its pair.
pub disjoint_known : (s : Bytes) (l p z : ℕ) → l < locations s → p ≡ offset s l → z ≡ size s l → disjoint (transitions s l) ≡ disjoint (transitions_from s (z / 7) p)
disjoint_known s l p z h e f = rw (e, f) (ap disjoint (transitions_known s l h))
