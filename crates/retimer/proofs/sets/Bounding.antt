-- The readings and rows that a transition allows.
-- Assumes nothing.
use mathlib.Core.Path.{◌≡◌, refl, sym, ◌∙◌}
use mathlib.Core.Bool.{Bool, true, false, cond, false≢true}
use mathlib.Core.Logic.{◌⊎◌, inl, inr, ◌↔◌}
use Prim.Native.Nat.{ℕ, ◌+◌, ◌/◌, ◌%◌, ◌≤◌, ◌<◌}
use native.Mathlib.Omega.{arith}
use lib.Dec.{eqb}
use borrow.Author.Tests.{eqb-true, eqb-false}
use Rattle.enforcement.specs.Limits.{max_bound}
use Rattle.enforcement.specs.Automaton.{Bytes, Transition, bit, clocks, within, enabled}
use Rattle.enforcement.specs.Loading.{Bounds, Fits}
use Rattle.enforcement.specs.Model.{top, width}
use Rattle.enforcement.proofs.Tests.{Tests, both_tests, test_true, none_true}
use Rattle.enforcement.proofs.Comparisons.{within_tests}
use Rattle.retimer.specs.Row.{Interval}
use Rattle.retimer.specs.Readings.{past}
use Rattle.retimer.specs.Sets.{second, height, Columns}

pub enabled_tests : (u : Transition) (x y : ℕ) → Tests (enabled u x y) ((within u.low1 u.high1 x ≡ true) × (within u.low2 u.high2 y ≡ true))
enabled_tests u x y = both_tests (is (within u.low1 u.high1 x)) (is (within u.low2 u.high2 y))
  where
    is : (b : Bool) → Tests b (b ≡ true)
    is b = record { passes = λ e. e; fails = λ e f. false≢true (sym e ∙ f) }

pub past_ordered : (low high : ℕ) → Bounds low high → (low ≤ past high) × (past high ≤ width)
past_ordered low high h = go (eqb high 255) refl h.high_fits
  where
    go : (b : Bool) → eqb high 255 ≡ b → (high ≤ max_bound) ⊎ (high ≡ 255) → (low ≤ cond b width (high + 1)) × (cond b width (high + 1) ≤ width)
    go true e f = (omega (arith, h.low_fits), omega arith)
    go false e (inl f) = (omega (arith, h.ordered), omega arith)
    go false e (inr f) = absurd (eqb-false high 255 e f)

-- Within the bounds, as an interval of readings.
pub within_past : (low high x : ℕ) → x ≤ top → ((low ≤ x) × (x < past high)) ↔ (within low high x ≡ true)
within_past low high x l = (λ u. test_true (within_tests low high x) (u.0, go (eqb high 255) refl u.1), λ e. let w = (within_tests low high x).passes e in (w.0, back (eqb high 255) refl w.1))
  where
    go : (b : Bool) → eqb high 255 ≡ b → x < cond b width (high + 1) → (high ≡ 255) ⊎ (x ≤ high)
    go true e k = inl (eqb-true high 255 e)
    go false e k = inr (omega arith)

    back : (b : Bool) → eqb high 255 ≡ b → (high ≡ 255) ⊎ (x ≤ high) → x < cond b width (high + 1)
    back true e k = omega arith
    back false e (inl k) = absurd (eqb-false high 255 e k)
    back false e (inr k) = omega arith

pub columns_right : (u : Transition) (a b v : ℕ) → Bounds u.low1 u.high1 → a ≡ u.low1 → b ≡ past u.high1 → Interval a b v → Columns u v
columns_right u a b v h e f i = record {
  small = i.small;
  right = λ x. (
    λ n. let w = (i.right x).0 n in let t : x ≤ top = omega (arith, w.1, f, (past_ordered u.low1 u.high1 h).1) in ((within_past u.low1 u.high1 x t).0 (omega (arith, w.0, e), omega (arith, w.1, f)), t),
    λ n. let w = (within_past u.low1 u.high1 x n.1).1 n.0 in (i.right x).1 (omega (arith, w.0, e), omega (arith, w.1, f)),
  );
}

pub within_inside : (low high x : ℕ) → low ≤ x → x < past high → x ≤ top → within low high x ≡ true
within_inside low high x h g f = (within_past low high x f).0 (h, g)

pub within_above : (low high x : ℕ) → x ≤ top → past high ≤ x → within low high x ≡ false
within_above low high x h g = none_true _ (λ e. let w = (within_past low high x h).1 e in omega (arith, w.1))

pub within_below : (low high x : ℕ) → x ≤ top → x < low → within low high x ≡ false
within_below low high x h g = none_true _ (λ e. let w = (within_past low high x h).1 e in omega (arith, w.0))

-- A column is there just when its reading is within the bounds.
pub columns_bit : {u : Transition} {v : ℕ} → Columns u v → (x : ℕ) → x ≤ top → bit v x ≡ within u.low1 u.high1 x
columns_bit {u} {v} c x h = go (bit v x) refl (within u.low1 u.high1 x) refl
  where
    go : (a : Bool) → bit v x ≡ a → (b : Bool) → within u.low1 u.high1 x ≡ b → a ≡ b
    go true e b f = sym ((c.right x).0 e).0 ∙ f
    go false e true f = absurd (false≢true (sym e ∙ (c.right x).1 (f, h)))
    go false e false f = refl

-- The rows that a transition allows.
pub record RowsAllowed (u : Transition) (h a b : ℕ) : Type 0 where
  pub ordered : a ≤ b
  pub inside : b ≤ h
  pub some : 1 ≤ h
  pub right : (i : ℕ) → i < h → ((a ≤ i) × (i < b)) ↔ (within u.low2 u.high2 (second h i) ≡ true)

-- One row is for one clock.
one_clock_of : (s : Bytes) (h : ℕ) → h ≡ height s → h ≡ 1 → clocks s ≡ 1
one_clock_of s h e o = go (eqb (clocks s) 1) refl e
  where
    go : (t : Bool) → eqb (clocks s) 1 ≡ t → h ≡ cond t 1 width → clocks s ≡ 1
    go true c k = eqb-true (clocks s) 1 c
    go false c k = absurd (omega arith)

module _ (s : Bytes) (u : Transition) (h : ℕ) (f : Fits s u) (e : h ≡ height s) where
  pub row_allowed : h ≡ 1 → RowsAllowed u h 0 1
  row_allowed o =
      let k = f.one_clock (one_clock_of s h e o) in
      record { ordered = omega arith; inside = omega arith; some = omega arith; right = λ i l. (λ _. test_true (within_tests u.low2 u.high2 (second h i)) (omega (arith, k.low_zero), inl k.high_none), λ _. (omega arith, omega arith)) }

  -- There only the first clock can be reset.
  pub row_reset : h ≡ 1 → (u.resets ≡ 0 → ⊥) → u.resets ≡ 1
  row_reset o n = let k = eqb-false (u.resets / 2 % 2) 1 (f.one_clock (one_clock_of s h e o)).kept in omega (arith, f.resets_fit)

  pub rows_allowed : (a b : ℕ) → (h ≡ 1 → ⊥) → a ≡ u.low2 → b ≡ past u.high2 → RowsAllowed u h a b
  rows_allowed a b o x y = go (eqb (clocks s) 1) e
    where
      go : (t : Bool) → h ≡ cond t 1 width → RowsAllowed u h a b
      go true k = absurd (o k)
      go false k =
          let z = past_ordered u.low2 u.high2 f.second in
          record {
            ordered = omega (arith, z.0);
            inside = omega (arith, z.1);
            some = omega arith;
            right = λ i l. let t : second h i ≡ i = omega arith in let w = within_past u.low2 u.high2 i (omega arith) in rw (x, y, t) w;
          }
