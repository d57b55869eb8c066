-- The layout of a sheet's bytes: its test, and what it says to a reader of the bytes.
-- Assumes nothing.
use mathlib.Core.Path.{◌≡◌, refl, ap, sym, ◌∙◌, subst}
use mathlib.Core.List.{[]}
use mathlib.Core.Logic.{inl, inr}
use Prim.Native.Nat.{ℕ, zero, suc, ◌+◌, ◌-◌, ◌*◌, ◌/◌, ◌%◌, ◌≤◌, ◌<◌}
use native.Mathlib.Omega.{arith}
use native.Mathlib.Nat.{eq-or-lt_of_le}
use lib.ListN.{length, length-append}
use borrow.Author.Tests.{lt-ltb, le-ltb}
use Rattle.enforcement.specs.Automaton.{Bytes, locations, offset, size, transitions_from, transitions, transitions_over, all_transitions}
use Rattle.enforcement.specs.Loading.{Layout, end_before, pairs_pass}
use Rattle.enforcement.proofs.Tests.{Tests, eqb_tests, both_tests, then_tests, tests_same}

-- What holds at l, and from suc l on, holds from l on.
pub from_next : (P : ℕ → Type 0) (l n : ℕ) → P l → ((k : ℕ) → suc l ≤ k → k < n → P k) → (k : ℕ) → l ≤ k → k < n → P k
from_next P l n h f k a b = elim (eq-or-lt_of_le a) [ inl e ↦ subst P e h | inr c ↦ f k c b ]

-- ---- The test

-- The layout of the pairs from l on.
record From (s : Bytes) (l : ℕ) : Type 0 where
  adjacent : (k : ℕ) → l ≤ k → k < locations s → offset s k ≡ end_before s k
  whole : (k : ℕ) → l ≤ k → k < locations s → size s k % 7 ≡ 0
  to_the_end : end_before s (locations s) ≡ length s

from_tests : (s : Bytes) (n l e : ℕ) → l + n ≡ locations s → e ≡ end_before s l → Tests (pairs_pass s n l e) (From s l)
unfolding pairs_pass
from_tests s zero l e c h =
    let same : l ≡ locations s = omega arith in
    tests_same
    (λ k. record { adjacent = λ j a b. absurd (omega arith); whole = λ j a b. absurd (omega arith); to_the_end = sym (ap (end_before s) same) ∙ sym h ∙ k })
    (λ f. h ∙ ap (end_before s) same ∙ f.to_the_end)
    (eqb_tests e (length s))
from_tests s (suc n) l e c h =
    tests_same
    (λ x. let r : From s (suc l) = x.1.1 in record {
      adjacent = from_next (λ k. offset s k ≡ end_before s k) l (locations s) (x.0 ∙ h) r.adjacent;
      whole = from_next (λ k. size s k % 7 ≡ 0) l (locations s) x.1.0 r.whole;
      to_the_end = r.to_the_end;
    })
    (λ f. (f.adjacent l (omega arith) (omega arith) ∙ sym h, (f.whole l (omega arith) (omega arith), record { adjacent = λ k a b. f.adjacent k (omega arith) b; whole = λ k a b. f.whole k (omega arith) b; to_the_end = f.to_the_end })))
    (then_tests (eqb_tests (offset s l) e) (λ o. both_tests (eqb_tests (size s l % 7) 0) (from_tests s n (suc l) (e + size s l) (omega arith) (ap (λ (x : ℕ). x + size s l) (sym o)))))

pub layout_tests : (s : Bytes) → Tests (pairs_pass s (locations s) 0 (6 + 4 * locations s)) (Layout s)
layout_tests s =
    tests_same
    (λ f. record { adjacent = λ l h. f.adjacent l (omega arith) h; whole = λ l h. f.whole l (omega arith) h; to_the_end = f.to_the_end })
    (λ y. record { adjacent = λ l a h. y.adjacent l h; whole = λ l a h. y.whole l h; to_the_end = y.to_the_end })
    (from_tests s (locations s) 0 (6 + 4 * locations s) (omega arith) refl)

-- ---- The transitions of a location

pub transitions_known : (s : Bytes) (l : ℕ) → l < locations s → transitions s l ≡ transitions_from s (size s l / 7) (offset s l)
unfolding transitions
transitions_known s l h = rw (lt-ltb l (locations s) h, transitions) refl

pub transitions_none : (s : Bytes) (l : ℕ) → locations s ≤ l → transitions s l ≡ []
unfolding transitions
transitions_none s l h = rw (le-ltb l (locations s) h, transitions) refl

from_length : (s : Bytes) (n p : ℕ) → length (transitions_from s n p) ≡ n
from_length s zero p = refl
from_length s (suc n) p = ap suc (from_length s n (p + 7))

pub transitions_length : (s : Bytes) (l : ℕ) → l < locations s → length (transitions s l) ≡ size s l / 7
transitions_length s l h = ap length (transitions_known s l h) ∙ from_length s (size s l / 7) (offset s l)

-- ---- What the layout gives

module _ (s : Bytes) (y : Layout s) where
  after : (l : ℕ) → l ≤ locations s → 6 + 4 * locations s ≤ end_before s l
  after zero h = omega arith
  after (suc l) h = let e = y.adjacent l h in let k = after l (omega arith) in omega arith

  at_end : (l : ℕ) → l + 0 ≡ locations s → end_before s l ≡ length s
  at_end l h = let e : l ≡ locations s = omega arith in ap (end_before s) e ∙ y.to_the_end

  inside : (n l : ℕ) → l + n ≡ locations s → end_before s l ≤ length s
  inside zero l h = let e = at_end l h in omega arith
  inside (suc n) l h = let k : end_before s (suc l) ≤ length s = inside n (suc l) (omega arith) in let e = y.adjacent l (omega arith) in omega arith

  total : (n l : ℕ) → l + n ≡ locations s → end_before s l + 7 * length (transitions_over s n l) ≡ length s
  unfolding transitions_over
  total zero l h = let e = at_end l h in omega arith
  total (suc n) l h =
      let k : l < locations s = omega arith in
      let a = length-append (transitions s l) (transitions_over s n (suc l)) in
      let b = transitions_length s l k in
      let c = y.whole l k in
      let d = y.adjacent l k in
      let r : end_before s (suc l) + 7 * length (transitions_over s n (suc l)) ≡ length s = total n (suc l) (omega arith) in
      omega arith

  -- The transitions of a location lie after the pairs, and within the bytes.
  pub layout_after : (l : ℕ) → l < locations s → 6 + 4 * locations s ≤ offset s l
  layout_after l h = let e = y.adjacent l h in let k = after l (omega arith) in omega arith

  pub layout_inside : (l : ℕ) → l < locations s → offset s l + size s l ≤ length s
  layout_inside l h = inside (locations s - suc l) (suc l) (omega arith)

  -- The header, the pairs and the transitions make up the bytes.
  pub layout_total : 6 + 4 * locations s + 7 * length (all_transitions s) ≡ length s
  layout_total = total (locations s) 0 (omega arith)
