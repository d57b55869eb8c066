-- The step of an action as one of a location's transitions.
-- Assumes nothing.
use mathlib.Core.Path.{◌≡◌, refl, ap, sym, ◌∙◌}
use mathlib.Core.Bool.{Bool, true, false, cond, ◌&&◌}
use mathlib.Core.List.{List, [], ◌∷◌, ◌++◌, append_assoc}
use mathlib.Core.Option.{some}
use mathlib.Core.Logic.{inl, inr, ◌↔◌}
use Prim.Native.Nat.{ℕ}
use native.Mathlib.Omega.{arith}
use lib.Dec.{eqb}
use borrow.Author.Tests.{eqb-true}
use Rattle.enforcement.specs.Automaton.{Bytes, Transition, transitions, enabled}
use Rattle.enforcement.specs.Loading.{WellFormed, Fits, AllFit}
use Rattle.enforcement.specs.TimedWord.{Configuration, fire, fire_first, step}
use Rattle.enforcement.proofs.Tests.{true_T}
use Rattle.enforcement.proofs.Overlaps.{only_step}
use Rattle.enforcement.proofs.Loading.{deterministic}
use Rattle.retimer.specs.Steps.{One}

-- One of some transitions that fit.
pub one_map : {P Q : Transition → Type 0} {s : Bytes} (ts : List Transition) → AllFit s ts → ((t : Transition) → Fits s t → P t → Q t) → One P ts → One Q ts
one_map [] a f w = absurd w
one_map (t ∷ ts) a f (inl w) = inl (f t a.0 w)
one_map (t ∷ ts) a f (inr w) = inr (one_map ts a.1 f w)

-- A transition for the action is enabled at p and leads to q.
abbrev pub Taken : ℕ → Configuration → Configuration → Transition → Type 0
Taken c p q u = (u.action ≡ c) × (enabled u p.x p.y ≡ true) × (fire u p ≡ q)

first_one : (c : ℕ) (p q : Configuration) (ts : List Transition) → fire_first ts c p ≡ some q → One (Taken c p q) ts
unfolding fire_first
first_one c p q [] e = let z : ◌≡◌ {A = ℕ} 0 1 = cc in absurd (omega arith)
first_one c p q (u ∷ ts) e = go (eqb u.action c) refl (enabled u p.x p.y) refl e (first_one c p q ts)
  where
    go : (a : Bool) → eqb u.action c ≡ a → (b : Bool) → enabled u p.x p.y ≡ b → cond (a && b) (some (fire u p)) (fire_first ts c p) ≡ some q → (fire_first ts c p ≡ some q → One (Taken c p q) ts) → One (Taken c p q) (u ∷ ts)
    go true x true y k r = inl (eqb-true u.action c x, y, (let z : fire u p ≡ q = cc in z))
    go true x false y k r = inr (r k)
    go false x b y k r = inr (r k)

module _ (s : Bytes) (loads : WellFormed s) where
  one_step : (c : ℕ) (p q : Configuration) (us ts : List Transition) → transitions s p.location ≡ us ++ ts → One (Taken c p q) ts → step s c p ≡ some q
  one_step c p q us [] x w = absurd w
  one_step c p q us (u ∷ ts) x (inl w) =
      ap (λ (k : ℕ). step s k p) (sym w.0) ∙ only_step s (deterministic s loads) p.location p refl us u ts x (true_T w.1) ∙ ap some w.2
  one_step c p q us (u ∷ ts) x (inr w) = one_step c p q (us ++ (u ∷ [])) ts (x ∙ sym (append_assoc us (u ∷ []) ts)) w

  pub step_one : (c : ℕ) (p q : Configuration) → (step s c p ≡ some q) ↔ One (Taken c p q) (transitions s p.location)
  unfolding step
  step_one c p q = (first_one c p q (transitions s p.location), one_step c p q [] (transitions s p.location) refl)
