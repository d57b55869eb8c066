-- A step of the joined sheet is a step of each sheet.
-- Assumes nothing.
use mathlib.Core.Path.{◌≡◌, refl, sym, ap, ap₂, ◌∙◌, subst⁻¹}
use mathlib.Core.Bool.{Bool, true, false, cond, ◌&&◌}
use mathlib.Core.List.{List, [], ◌∷◌, ◌++◌}
use mathlib.Core.Option.{Option, none, some}
use Prim.Native.Nat.{ℕ, ◌+◌, ◌*◌, ◌/◌, ◌%◌, ◌≤◌, ◌<◌}
use native.Mathlib.Omega.{arith}
use lib.Dec.{eqb}
use borrow.Author.Tests.{eqb-true, eqb-false, eq-eqb, ne_eqb}
use Rattle.enforcement.specs.Automaton.{Bytes, Transition, locations, clocks, transitions, within, enabled, bit}
use Rattle.enforcement.specs.TimedWord.{Configuration, elapse, fire, fire_first, step}
use Rattle.enforcement.specs.Loading.{OneClock, Fits, AllFit, Bounded}
use Rattle.enforcement.proofs.Tests.{true_false}
use Rattle.enforcement.proofs.Bits.{and_cases}
use Rattle.product.specs.Product.{location_of, joint, joints_of, joints, joined, ReadsBoth}
use Rattle.product.proofs.OneClock.{resets_small, enabled_first}

-- ---- Reset sets

bit_low : (a b : ℕ) → bit (a + 2 * b) 0 ≡ bit a 0
bit_low a b = let e : (a + 2 * b) / 1 % 2 ≡ a / 1 % 2 = omega arith in ap (λ (i : ℕ). eqb i 1) e

bit_high : (a b : ℕ) → a ≤ 1 → bit (a + 2 * b) 1 ≡ bit b 0
bit_high a b h = let e : (a + 2 * b) / 2 % 2 ≡ b / 1 % 2 = omega arith in ap (λ (i : ℕ). eqb i 1) e

-- ---- Tests

and_false : (a b d : Bool) → a && b ≡ false → a && (b && d) ≡ false
and_false true true d e = true_false refl e
and_false true false d e = refl
and_false false b d e = refl

-- ---- The first of two lists

abbrev or_else : Option Configuration → Option Configuration → Option Configuration
or_else none z = z
or_else (some q) z = some q

first_append : (ts us : List Transition) (c : ℕ) (p : Configuration) → fire_first (ts ++ us) c p ≡ or_else (fire_first ts c p) (fire_first us c p)
unfolding fire_first
first_append [] us c p = refl
first_append (t ∷ ts) us c p = go (eqb t.action c && enabled t p.x p.y) (first_append ts us c p)
  where
    go : (b : Bool) → fire_first (ts ++ us) c p ≡ or_else (fire_first ts c p) (fire_first us c p) → cond b (some (fire t p)) (fire_first (ts ++ us) c p) ≡ or_else (cond b (some (fire t p)) (fire_first ts c p)) (fire_first us c p)
    go true e = refl
    go false e = e

-- ---- Configurations of the joined sheet and of both

module _ (s u : Bytes) where
  -- r is at the pair of the locations of p and q, and reads their first clocks.
  pub record Paired (r p q : Configuration) : Type 0 where
    pub place : r.location ≡ location_of (locations u) p.location q.location
    pub first_reading : r.x ≡ p.x
    pub second_reading : r.y ≡ q.x
    pub first_fits : p.location < locations s
    pub second_fits : q.location < locations u

  -- The joined sheet finds something exactly when both do, and then what they find is paired.
  pub data Meets : Option Configuration → Option Configuration → Option Configuration → Type 0 where
    none_first : {o : Option Configuration} → Meets none none o
    none_second : {o : Option Configuration} → Meets none o none
    both : {r p q : Configuration} → Paired r p q → Meets (some r) (some p) (some q)

  pub elapse_paired : {r p q : Configuration} (n : ℕ) → Paired r p q → Paired (elapse n r) (elapse n p) (elapse n q)
  elapse_paired n h = record { place = h.place; first_reading = ap (λ (x : ℕ). x + n) h.first_reading; second_reading = ap (λ (x : ℕ). x + n) h.second_reading; first_fits = h.first_fits; second_fits = h.second_fits }

  -- ---- The joint transitions of one transition of the first sheet

  module _ (c : ℕ) (r : Configuration) where
    -- The first sheet's transition is for the action, and enabled.
    abbrev applies : Transition → Bool
    applies t = eqb t.action c && within t.low1 t.high1 r.x

    -- If it is not, none of them is.
    none_found : (t : Transition) → applies t ≡ false → (vs : List Transition) → fire_first (joints_of (locations u) t vs) c r ≡ none
    unfolding fire_first joints_of
    none_found t e [] = refl
    none_found t e (v ∷ vs) = go (eqb t.action v.action) (none_found t e vs)
      where
        go : (b : Bool) → fire_first (joints_of (locations u) t vs) c r ≡ none → fire_first (cond b (joint (locations u) t v ∷ joints_of (locations u) t vs) (joints_of (locations u) t vs)) c r ≡ none
        go true h = ap (λ (b : Bool). cond b (some (fire (joint (locations u) t v) r)) (fire_first (joints_of (locations u) t vs) c r)) (and_false (eqb t.action c) (within t.low1 t.high1 r.x) (within v.low1 v.high1 r.y) e) ∙ h
        go false h = h

  -- ---- Where both sheets have one clock

  module _ (one : clocks s ≡ 1) (other : clocks u ≡ 1) where
    -- A transition of each, taken as one.
    fire_paired : {r p q : Configuration} (t v : Transition) → Fits s t → Fits u v → Paired r p q → Paired (fire (joint (locations u) t v) r) (fire t p) (fire v q)
    fire_paired t v f g h =
        let k : t.resets ≤ 1 = resets_small t f.resets_fit (f.one_clock one) in
        record {
          place = refl;
          first_reading = ap₂ (λ (b : Bool) (n : ℕ). cond b 0 n) (bit_low t.resets v.resets) h.first_reading;
          second_reading = ap₂ (λ (b : Bool) (n : ℕ). cond b 0 n) (bit_high t.resets v.resets k) h.second_reading;
          first_fits = f.target_fits;
          second_fits = g.target_fits;
        }

    module _ (c : ℕ) {r p q : Configuration} (h : Paired r p q) where
      -- The test of a joint transition, where that of the first sheet's passes, is the second sheet's.
      joint_test : (t v : Transition) → OneClock v → applies c r t ≡ true → eqb v.action c ≡ true
          → (eqb t.action c && (within t.low1 t.high1 r.x && within v.low1 v.high1 r.y)) ≡ (eqb v.action c && enabled v q.x q.y)
      joint_test t v k e f =
          let a = and_cases (eqb t.action c) (within t.low1 t.high1 r.x) e in
          rw (a.0, a.1, f, enabled_first v q.x q.y k, h.second_reading)

      -- The first of them that is enabled is the one with the second sheet's first that is.
      some_found : (t : Transition) → Fits s t → applies c r t ≡ true → (vs : List Transition) → AllFit u vs → Meets (fire_first (joints_of (locations u) t vs) c r) (some (fire t p)) (fire_first vs c q)
      unfolding fire_first joints_of
      some_found t f e [] g = none_second
      some_found t f e (v ∷ vs) g = go (eqb t.action v.action) refl (some_found t f e vs g.1)
        where
          same : t.action ≡ c
          same = eqb-true t.action c (and_cases (eqb t.action c) (within t.low1 t.high1 r.x) e).0

          more : (b : Bool) → Meets (fire_first (joints_of (locations u) t vs) c r) (some (fire t p)) (fire_first vs c q)
              → Meets (cond b (some (fire (joint (locations u) t v) r)) (fire_first (joints_of (locations u) t vs) c r)) (some (fire t p)) (cond b (some (fire v q)) (fire_first vs c q))
          more true m = both (fire_paired t v f g.0 h)
          more false m = m

          go : (b : Bool) → eqb t.action v.action ≡ b → Meets (fire_first (joints_of (locations u) t vs) c r) (some (fire t p)) (fire_first vs c q)
              → Meets (fire_first (cond b (joint (locations u) t v ∷ joints_of (locations u) t vs) (joints_of (locations u) t vs)) c r) (some (fire t p)) (cond (eqb v.action c && enabled v q.x q.y) (some (fire v q)) (fire_first vs c q))
          go true a m =
              let d : eqb v.action c ≡ true = eq-eqb v.action c (sym (eqb-true t.action v.action a) ∙ same) in
              subst⁻¹ (λ (x : Bool). Meets (cond x (some (fire (joint (locations u) t v) r)) (fire_first (joints_of (locations u) t vs) c r)) (some (fire t p)) (cond (eqb v.action c && enabled v q.x q.y) (some (fire v q)) (fire_first vs c q))) (joint_test t v (g.0.one_clock other) e d) (more (eqb v.action c && enabled v q.x q.y) m)
          go false a m =
              let d : eqb v.action c ≡ false = ne_eqb v.action c (λ k. eqb-false t.action v.action a (same ∙ sym k)) in
              rw d m

      -- ---- All of them

      -- The first sheet's transition has them first; those of its other transitions come after.
      meets_more : {o z w a : Option Configuration} {b : Configuration} → Meets o (some b) z → Meets w a z → Meets (or_else o w) (some b) z
      meets_more none_second none_first = none_second
      meets_more none_second none_second = none_second
      meets_more (both k) m = both k

      -- The test of the first sheet's transition.
      first_test : (t : Transition) → OneClock t → (eqb t.action c && enabled t p.x p.y) ≡ applies c r t
      first_test t k = rw (enabled_first t p.x p.y k, h.first_reading)

      joints_meet : (ts vs : List Transition) → AllFit s ts → AllFit u vs → Meets (fire_first (joints (locations u) ts vs) c r) (fire_first ts c p) (fire_first vs c q)
      unfolding fire_first joints
      joints_meet [] vs f g = none_first
      joints_meet (t ∷ ts) vs f g =
          rw (first_append (joints_of (locations u) t vs) (joints (locations u) ts vs) c r, first_test t (f.0.one_clock one))
          (go (applies c r t) refl (joints_meet ts vs f.1 g))
        where
          go : (b : Bool) → applies c r t ≡ b → Meets (fire_first (joints (locations u) ts vs) c r) (fire_first ts c p) (fire_first vs c q)
              → Meets (or_else (fire_first (joints_of (locations u) t vs) c r) (fire_first (joints (locations u) ts vs) c r)) (cond b (some (fire t p)) (fire_first ts c p)) (fire_first vs c q)
          go true e m = meets_more (some_found t f.0 e vs g) m
          go false e m = rw (none_found c r t e vs) m

    -- A step of the joined sheet is one of each sheet.
    pub step_meets : ReadsBoth s u → Bounded s → Bounded u → (c : ℕ) {r p q : Configuration} → Paired r p q → Meets (step (joined s u) c r) (step s c p) (step u c q)
    unfolding step Bounded
    step_meets b f g c {r} {p} {q} h =
        rw (ap (transitions (joined s u)) h.place ∙ b.leads p.location q.location h.first_fits h.second_fits)
        (joints_meet c h (transitions s p.location) (transitions u q.location) (f p.location) (g q.location))
