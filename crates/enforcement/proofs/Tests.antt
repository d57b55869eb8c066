-- A Boolean test of a statement, and how tests combine.
-- Assumes nothing.
use mathlib.Core.Path.{◌≡◌, refl, sym, subst}
use mathlib.Core.Bool.{Bool, true, false, ◌&&◌, ◌||◌, not}
use mathlib.Core.Logic.{◌⊎◌, inl, inr, ◌↔◌}
use Prim.Native.Nat.{ℕ, suc, ◌≤◌, ◌<◌}
use native.Mathlib.Omega.{arith}
use lib.Dec.{T, leb, ltb, eqb}
use borrow.Author.Tests.{leb-true, leb-false, ltb-true, ltb-false, eqb-true, eqb-false}

-- The test is true exactly when the statement holds.
pub record Tests (b : Bool) (P : Type 0) : Type 0 where
  pub passes : b ≡ true → P
  pub fails : b ≡ false → P → ⊥

-- The test is false exactly when the statement holds.
pub record Finds (b : Bool) (P : Type 0) : Type 0 where
  pub passes : b ≡ true → P → ⊥
  pub fails : b ≡ false → P

pub true_false : {b : Bool} {A : Type 0} → b ≡ true → b ≡ false → A
true_false p q = let z : ◌≡◌ {A = Bool} true false = cc in absurd (subst T z tt)

pub T_true : {b : Bool} → T b → b ≡ true
T_true {b} h = go b h
  where
    go : (c : Bool) → T c → c ≡ true
    go true k = refl
    go false k = absurd k

pub true_T : {b : Bool} → b ≡ true → T b
true_T e = subst T (sym e) tt

-- A test that can't be true is false.
pub none_true : (b : Bool) → (b ≡ true → ⊥) → b ≡ false
none_true true h = absurd (h refl)
none_true false h = refl

-- ---- One test

pub T-tests : (b : Bool) → Tests b (T b)
T-tests b = record { passes = true_T; fails = λ e h. true_false (T_true h) e }

pub leb_tests : (a b : ℕ) → Tests (leb a b) (a ≤ b)
leb_tests a b = record { passes = leb-true a b; fails = λ e h. let k : b < a = leb-false a b e in omega arith }

pub ltb_tests : (a b : ℕ) → Tests (ltb a b) (a < b)
ltb_tests a b = leb_tests (suc a) b

pub eqb_tests : (a b : ℕ) → Tests (eqb a b) (a ≡ b)
eqb_tests a b = record { passes = eqb-true a b; fails = eqb-false a b }

pub not_tests : (b : Bool) → Tests (not b) (b ≡ false)
not_tests true = record { passes = sym; fails = λ e h. true_false refl h }
not_tests false = record { passes = λ e. refl; fails = λ e h. true_false refl e }

pub leb_finds : (a b : ℕ) → Finds (leb a b) (b < a)
leb_finds a b = record { passes = λ e h. let k : a ≤ b = leb-true a b e in omega arith; fails = leb-false a b }

pub ltb_finds : (a b : ℕ) → Finds (ltb a b) (b ≤ a)
ltb_finds a b = record { passes = λ e h. let k : a < b = ltb-true a b e in omega arith; fails = ltb-false a b }

-- ---- Several

module _ {a b : Bool} {P Q : Type 0} where
  -- The second may rest on the first.
  pub then_tests : Tests a P → (P → Tests b Q) → Tests (a && b) (P × Q)
  then_tests p q = go a b p q
    where
      go : (c d : Bool) → Tests c P → (P → Tests d Q) → Tests (c && d) (P × Q)
      go true d u v = let x = u.passes refl in record { passes = λ e. (x, (v x).passes e); fails = λ e h. (v x).fails e h.1 }
      go false d u v = record { passes = λ e. true_false e refl; fails = λ e h. u.fails refl h.0 }

  pub both_tests : Tests a P → Tests b Q → Tests (a && b) (P × Q)
  both_tests p q = then_tests p (λ h. q)

  pub either_tests : Tests a P → Tests b Q → Tests (a || b) (P ⊎ Q)
  either_tests p q = go a b p q
    where
      go : (c d : Bool) → Tests c P → Tests d Q → Tests (c || d) (P ⊎ Q)
      go true d u v = record { passes = λ e. inl (u.passes refl); fails = λ e h. true_false refl e }
      go false d u v = record { passes = λ e. inr (v.passes e); fails = λ e. elim [ inl h ↦ u.fails refl h | inr h ↦ v.fails e h ] }

  pub both_finds : Finds a P → Finds b Q → Finds (a && b) (P ⊎ Q)
  both_finds p q = go a b p q
    where
      go : (c d : Bool) → Finds c P → Finds d Q → Finds (c && d) (P ⊎ Q)
      go true d u v = record { passes = λ e. elim [ inl h ↦ u.passes refl h | inr h ↦ v.passes e h ]; fails = λ e. inr (v.fails e) }
      go false d u v = record { passes = λ e. true_false e refl; fails = λ e. inl (u.fails refl) }

-- ---- The same test of another statement

module _ {b : Bool} {P Q : Type 0} where
  pub tests_same : (P → Q) → (Q → P) → Tests b P → Tests b Q
  tests_same f g p = record { passes = λ e. f (p.passes e); fails = λ e h. p.fails e (g h) }

  pub finds_same : (P → Q) → (Q → P) → Finds b P → Finds b Q
  finds_same f g p = record { passes = λ e h. p.passes e (g h); fails = λ e. f (p.fails e) }

module _ {b : Bool} {P : Type 0} where
  pub finds_not : Tests b P → Finds b (P → ⊥)
  finds_not p = record { passes = λ e h. h (p.passes e); fails = p.fails }

  pub finds_opposite : Tests b P → Finds (not b) P
  finds_opposite p = go b p
    where
      go : (c : Bool) → Tests c P → Finds (not c) P
      go true u = record { passes = λ e. true_false e refl; fails = λ e. u.passes refl }
      go false u = record { passes = λ e. u.fails refl; fails = λ e. true_false refl e }

  pub proved : Tests b P → T b → P
  proved p h = p.passes (T_true h)

  pub test_true : Tests b P → P → b ≡ true
  test_true p h = go b p
    where
      go : (c : Bool) → Tests c P → c ≡ true
      go true u = refl
      go false u = absurd (u.fails refl h)

  pub shown : Tests b P → P → T b
  shown p h = true_T (test_true p h)

  pub exact : Tests b P → (b ≡ true) ↔ P
  exact p = (p.passes, test_true p)

  -- What a test decides holds if it cannot fail.
  pub sure : Tests b P → ((P → ⊥) → ⊥) → P
  sure p h = go b p
    where
      go : (c : Bool) → Tests c P → P
      go true u = u.passes refl
      go false u = absurd (h (u.fails refl))

-- Two Booleans that are true exactly when one statement holds.
pub agree : {a b : Bool} {P : Type 0} → (a ≡ true) ↔ P → (b ≡ true) ↔ P → a ≡ b
agree {a} {b} {P} p q = go a p
  where
    go : (c : Bool) → (c ≡ true) ↔ P → c ≡ b
    go true u = sym (q.1 (u.0 refl))
    go false u = sym (none_true b (λ e. true_false (u.1 (q.0 e)) refl))

-- A statement that is asked for only where another holds.
pub implies_tests : {a b : Bool} {P Q : Type 0} → Tests a P → Tests b Q → Tests (not a || b) (P → Q)
implies_tests {a} {b} {P} {Q} p q = go a b p q
  where
    go : (c d : Bool) → Tests c P → Tests d Q → Tests (not c || d) (P → Q)
    go true d u v = record { passes = λ e h. v.passes e; fails = λ e h. v.fails e (h (u.passes refl)) }
    go false d u v = record { passes = λ e h. absurd (u.fails refl h); fails = λ e h. true_false refl e }
