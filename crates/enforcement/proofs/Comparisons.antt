-- The bound test says yes exactly when the reading lies from low to high, and so does each of its plain cases.
-- Assumes nothing.
use mathlib.Core.Path.{◌≡◌, refl, sym, subst}
use mathlib.Core.Bool.{Bool, true, false}
use mathlib.Core.Logic.{◌⊎◌, inl, inr, ◌↔◌}
use Prim.Native.Nat.{ℕ, ◌+◌, ◌≤◌, ◌<◌}
use native.Mathlib.Omega.{arith}
use lib.Dec.{eqb}
use borrow.Author.Tests.{eqb-true, eqb-false, eq-eqb, ne_eqb}
use Rattle.enforcement.specs.Automaton.{Lies, within}
use Rattle.enforcement.specs.Comparison.{Comparison, at_least, exactly, at_most, between, Suits, rank, Falls, pick, says, CaseRight, PickRight, OrderRight}
use Rattle.enforcement.proofs.Tests.{Tests, leb_tests, eqb_tests, both_tests, either_tests, tests_same, exact, agree}

pub within_tests : (low high x : ℕ) → Tests (within low high x) (Lies low high x)
within_tests low high x = both_tests (leb_tests low x) (either_tests (eqb_tests high 255) (leb_tests x high))

pub within_right : (low high x : ℕ) → (within low high x ≡ true) ↔ Lies low high x
within_right low high x = exact (within_tests low high x)

-- ---- Each case apart

-- Where there is an upper bound, a reading that lies from low to high is at most high.
to_high : {low high x : ℕ} → (high ≡ 255 → ⊥) → Lies low high x → x ≤ high
to_high {low} {high} {x} h l = go l.1
  where
    go : (high ≡ 255) ⊎ (x ≤ high) → x ≤ high
    go (inl e) = absurd (h e)
    go (inr k) = k

-- There is one in each case but the first.
has_high : {c : Comparison} {low high : ℕ} → Falls c low high → rank at_least < rank c → high ≡ 255 → ⊥
unfolding Suits
has_high f h e = f.none_earlier at_least h e

pub at_least_right : CaseRight at_least
unfolding Suits
at_least_right low high x f = exact (tests_same (λ l. (l, inl f.suits)) (λ l. l.0) (leb_tests low x))

pub exactly_right : CaseRight exactly
unfolding Suits
exactly_right low high x f =
    let equal = f.suits in
    exact (tests_same (λ e. (omega arith, inr (omega arith))) (λ l. omega (arith, l.0, to_high (has_high f (omega arith)) l)) (eqb_tests x low))

pub at_most_right : CaseRight at_most
unfolding Suits
at_most_right low high x f =
    let zero = f.suits in
    exact (tests_same (λ l. (omega arith, inr l)) (to_high (has_high f (omega arith))) (leb_tests x high))

pub between_right : CaseRight between
between_right low high x f = exact (tests_same (λ l. (l.0, inr l.1)) (λ l. (l.0, to_high (has_high f (omega arith)) l)) (both_tests (leb_tests low x) (leb_tests x high)))

case_right : (c : Comparison) → CaseRight c
case_right at_least = at_least_right
case_right exactly = exactly_right
case_right at_most = at_most_right
case_right between = between_right

-- ---- The case that is picked

module _ (low high : ℕ) where
  -- No case below rank n fits.
  none_below : (n : ℕ) → n ≤ rank between → (rank at_least < n → high ≡ 255 → ⊥) → (rank exactly < n → low ≡ high → ⊥) → (rank at_most < n → low ≡ 0 → ⊥) → (c : Comparison) → rank c < n → Suits c low high → ⊥
  unfolding Suits
  none_below n h p q r at_least l s = p l s
  none_below n h p q r exactly l s = q l s
  none_below n h p q r at_most l s = r l s
  none_below n h p q r between l s = omega arith

  -- Some case is the first that fits.
  some_case : (c : Comparison) × Falls c low high
  unfolding Suits
  some_case = go (eqb high 255) refl (eqb low high) refl (eqb low 0) refl
    where
      go : (a : Bool) → eqb high 255 ≡ a → (b : Bool) → eqb low high ≡ b → (d : Bool) → eqb low 0 ≡ d → (c : Comparison) × Falls c low high
      go true e b f d g = (at_least, record { suits = eqb-true high 255 e; none_earlier = λ c l s. omega arith })
      go false e true f d g = (exactly, record { suits = eqb-true low high f; none_earlier = none_below (rank exactly) (omega arith) (λ l. eqb-false high 255 e) (λ l. absurd (omega arith)) (λ l. absurd (omega arith)) })
      go false e false f true g = (at_most, record { suits = eqb-true low 0 g; none_earlier = none_below (rank at_most) (omega arith) (λ l. eqb-false high 255 e) (λ l. eqb-false low high f) (λ l. absurd (omega arith)) })
      go false e false f false g = (between, record { suits = tt; none_earlier = none_below (rank between) (omega arith) (λ l. eqb-false high 255 e) (λ l. eqb-false low high f) (λ l. eqb-false low 0 g) })

  pub pick_at_least : high ≡ 255 → at_least ≡ pick low high
  pick_at_least e = rw (eq-eqb high 255 e) refl

  pub pick_exactly : (high ≡ 255 → ⊥) → low ≡ high → exactly ≡ pick low high
  pick_exactly n e = rw (ne_eqb high 255 n, eq-eqb low high e) refl

  pub pick_at_most : (high ≡ 255 → ⊥) → (low ≡ high → ⊥) → low ≡ 0 → at_most ≡ pick low high
  pick_at_most n o e = rw (ne_eqb high 255 n, ne_eqb low high o, eq-eqb low 0 e) refl

  pub pick_between : (high ≡ 255 → ⊥) → (low ≡ high → ⊥) → (low ≡ 0 → ⊥) → between ≡ pick low high
  pick_between n o p = rw (ne_eqb high 255 n, ne_eqb low high o, ne_eqb low 0 p) refl

  -- It is the one that is picked.
  only_picked : (c : Comparison) → Falls c low high → c ≡ pick low high
  unfolding Suits
  only_picked at_least f = pick_at_least f.suits
  only_picked exactly f = pick_exactly (has_high f (omega arith)) f.suits
  only_picked at_most f = pick_at_most (has_high f (omega arith)) (f.none_earlier exactly (omega arith)) f.suits
  only_picked between f = pick_between (has_high f (omega arith)) (f.none_earlier exactly (omega arith)) (f.none_earlier at_most (omega arith))

  pub pick_right : PickRight low high
  pick_right = record { falls = subst (λ (c : Comparison). Falls c low high) (only_picked some_case.0 some_case.1) some_case.1; only = only_picked }

  -- So the test is what the case that is picked says.
  pub says_within : (c : Comparison) → c ≡ pick low high → (x : ℕ) → says c low high x ≡ within low high x
  says_within c e x = agree (case_right c low high x (subst (λ (d : Comparison). Falls d low high) (sym e) pick_right.falls)) (within_right low high x)

pub order_right : OrderRight
order_right = record { unbounded_and_equal = (pick_right 255 255).falls; unbounded_and_zero = (pick_right 0 255).falls; equal_and_zero = (pick_right 0 0).falls; zero_alone = (pick_right 0 1).falls; the_rest = (pick_right 1 2).falls }

-- ---- Document 002's comparisons of a reading with a constant, as bounds

pub less_lies : (c x : ℕ) → c < 255 → (x < c + 1) ↔ Lies 0 c x
less_lies c x h = (λ l. (omega arith, inr (omega arith)), λ l. omega (arith, to_high (λ e. omega arith) l))

pub at_most_lies : (c x : ℕ) → c < 255 → (x ≤ c) ↔ Lies 0 c x
at_most_lies c x h = (λ l. (omega arith, inr l), to_high (λ e. omega arith))

pub equal_lies : (c x : ℕ) → c < 255 → (x ≡ c) ↔ Lies c c x
equal_lies c x h = (λ e. (omega arith, inr (omega arith)), λ l. omega (arith, l.0, to_high (λ e. omega arith) l))

pub at_least_lies : (c x : ℕ) → (c ≤ x) ↔ Lies c 255 x
at_least_lies c x = (λ l. (l, inl refl), λ l. l.0)

pub greater_lies : (c x : ℕ) → (c < x) ↔ Lies (c + 1) 255 x
greater_lies c x = (λ l. (omega arith, inl refl), λ l. omega (arith, l.0))

-- A reading is never below 0.
pub none_below_zero : (x : ℕ) → x < 0 → ⊥
none_below_zero x l = omega arith
