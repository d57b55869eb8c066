-- Prospects by where an action leads after some wait.
-- Assumes nothing.
use mathlib.Core.Path.{◌≡◌, refl, ap, sym, ◌∙◌, subst, subst⁻¹}
use mathlib.Core.Bool.{Bool, true, false}
use mathlib.Core.List.{List, ◌∷◌}
use mathlib.Core.Option.{Option, none, some}
use mathlib.Core.Logic.{◌⊎◌, inl, inr, ⊎_elim, ◌↔◌}
use Prim.Native.Nat.{ℕ, zero, suc, ◌+◌, ◌≤◌}
use native.Mathlib.Omega.{arith}
use lib.Dec.{ltb}
use borrow.Author.Tests.{ltb-true, ltb-false}
use Rattle.enforcement.specs.Automaton.{Bytes}
use Rattle.enforcement.specs.TimedWord.{Configuration, step}
use Rattle.enforcement.specs.Model.{top, advance, headroom, Prospect, ticks, extensible, dead, later, better, after_step, waits, prospect, compile}
use Rattle.enforcement.proofs.Saturation.{configuration_path}
use Rattle.enforcement.proofs.Equations.{by_cond, prospect_cons}
use Rattle.enforcement.proofs.Optimum.{Within, within_lower}
use Rattle.retimer.specs.Outlook.{Ends, Lives}
use Rattle.retimer.proofs.Prospects.{step_is}

-- A kind of prospect at a date that the better of two has if one of them has it, a tick later where it is waited for; dead has it not, and an earlier date does no harm.
pub record Timed (G : Prospect → ℕ → Type 0) : Type 0 where
  pub none : (d : ℕ) → G dead d → ⊥
  pub next : (a b : Prospect) (d : ℕ) → G (better a (later b)) d ↔ (G a d ⊎ G b (suc d))
  pub sooner : (a : Prospect) (d e : ℕ) → d ≤ e → G a e → G a d

-- A kind that does not ask for the date.
pub record Kind (G : Prospect → Type 0) : Type 0 where
  pub none : G dead → ⊥
  pub next : (a b : Prospect) → G (better a (later b)) ↔ (G a ⊎ G b)

pub timeless : {G : Prospect → Type 0} → Kind G → Timed (λ a d. G a)
timeless g = record { none = λ d. g.none; next = λ a b d. g.next a b; sooner = λ a d e h m. m }

-- Ending by z.
pub within_timed : (z : ℕ) → Timed (Within z)
within_timed z = record { none = λ d e. e; next = next; sooner = (within_lower z).sooner }
  where
    next : (a b : Prospect) (d : ℕ) → Within z (better a (later b)) d ↔ (Within z a d ⊎ Within z b (suc d))
    next (ticks n) (ticks k) d =
        by_cond n (suc k) (λ (x : Prospect). Within z x d ↔ (Within z (ticks n) d ⊎ Within z (ticks k) (suc d))) (λ l. (inl, ⊎_elim (λ w. w) (λ w. omega arith))) (λ l. (λ w. inr (omega arith), ⊎_elim (λ w. omega arith) (λ w. omega arith)))
    next (ticks n) extensible d = (inl, ⊎_elim (λ w. w) (λ w. absurd w))
    next (ticks n) dead d = (inl, ⊎_elim (λ w. w) (λ w. absurd w))
    next extensible (ticks k) d = (λ w. inr (omega arith), ⊎_elim (λ w. absurd w) (λ w. omega arith))
    next extensible extensible d = (inl, ⊎_elim (λ w. w) (λ w. w))
    next extensible dead d = (inl, ⊎_elim (λ w. w) (λ w. w))
    next dead (ticks k) d = (λ w. inr (omega arith), ⊎_elim (λ w. absurd w) (λ w. omega arith))
    next dead extensible d = (inl, ⊎_elim (λ w. w) (λ w. w))
    next dead dead d = (inl, ⊎_elim (λ w. w) (λ w. w))

pub ends_kind : Kind Ends
ends_kind = record { none = λ e. e; next = next }
  where
    next : (a b : Prospect) → Ends (better a (later b)) ↔ (Ends a ⊎ Ends b)
    next (ticks n) (ticks k) = by_cond n (suc k) (λ (x : Prospect). Ends x ↔ (Unit {0} ⊎ Unit {0})) (λ _. (inl, λ _. tt)) (λ _. (inl, λ _. tt))
    next (ticks n) extensible = (inl, λ _. tt)
    next (ticks n) dead = (inl, λ _. tt)
    next extensible (ticks k) = (inr, λ _. tt)
    next extensible extensible = (inl, ⊎_elim (λ e. e) (λ e. e))
    next extensible dead = (inl, ⊎_elim (λ e. e) (λ e. e))
    next dead (ticks k) = (inr, λ _. tt)
    next dead extensible = (inr, ⊎_elim (λ e. e) (λ e. e))
    next dead dead = (inl, ⊎_elim (λ e. e) (λ e. e))

pub lives_kind : Kind Lives
lives_kind = record { none = λ e. e; next = next }
  where
    next : (a b : Prospect) → Lives (better a (later b)) ↔ (Lives a ⊎ Lives b)
    next (ticks n) (ticks k) = by_cond n (suc k) (λ (x : Prospect). Lives x ↔ (Unit {0} ⊎ Unit {0})) (λ _. (inl, λ _. tt)) (λ _. (inl, λ _. tt))
    next (ticks n) extensible = (inl, λ _. tt)
    next (ticks n) dead = (inl, λ _. tt)
    next extensible (ticks k) = (inr, λ _. tt)
    next extensible extensible = (inl, λ _. tt)
    next extensible dead = (inl, λ _. tt)
    next dead (ticks k) = (inr, λ _. tt)
    next dead extensible = (inr, λ _. tt)
    next dead dead = (inl, ⊎_elim (λ e. e) (λ e. e))

-- A configuration with saturated readings.
abbrev pub Saturated : Configuration → Type 0
Saturated p = (p.x ≤ top) × (p.y ≤ top)

pub advance_none : (p : Configuration) → Saturated p → advance 0 p ≡ p
advance_none p h = configuration_path (omega (arith, h.0)) (omega (arith, h.1))

pub advance_more : (u v : ℕ) (p : Configuration) → advance v (advance u p) ≡ advance (u + v) p
advance_more u v p = configuration_path (omega arith) (omega arith)

-- A wait beyond saturation adds nothing.
pub advance_most : (u : ℕ) (p : Configuration) → Saturated p → headroom p ≤ u → advance u p ≡ advance (headroom p) p
advance_most u p h k = configuration_path (omega arith) (omega arith)

module _ (G : Prospect → ℕ → Type 0) (g : Timed G) where
  after_kind : (o : Option Configuration) (f : Configuration → Prospect) (d : ℕ) → G (after_step o f) d ↔ ((q : Configuration) × (o ≡ some q) × G (f q) d)
  after_kind none f d = (λ h. absurd (g.none d h), λ w. let e = w.1 in let z : ◌≡◌ {A = ℕ} 0 1 = cc in absurd (omega arith))
  after_kind (some q) f d = (λ h. (q, refl, h), λ w. let e = w.1 in let z : w.0 ≡ q = cc in subst (λ (r : Configuration). G (f r) d) z w.2)

  -- Within k ticks from date d on the action leads to a prospect of the kind.
  abbrev Soon : (ℕ → Configuration → Option Configuration) → ℕ → (Configuration → Prospect) → ℕ → Configuration → ℕ → Type 0
  Soon st c f k p d = (u : ℕ) × (u ≤ k) × (q : Configuration) × (st c (advance u p) ≡ some q) × G (f q) (d + u)

  at_once : (st : ℕ → Configuration → Option Configuration) (c : ℕ) (f : Configuration → Prospect) (k : ℕ) (p : Configuration) (d : ℕ) → Saturated p → G (after_step (st c p) f) d → Soon st c f k p d
  at_once st c f k p d h m =
      let w = (after_kind (st c p) f d).0 m in (0, omega arith, w.0, ap (st c) (advance_none p h) ∙ w.1, subst⁻¹ (G (f w.0)) (let z : d + 0 ≡ d = omega arith in z) w.2)

  now_again : (st : ℕ → Configuration → Option Configuration) (c : ℕ) (f : Configuration → Prospect) (p q : Configuration) (d : ℕ) → Saturated p → st c (advance 0 p) ≡ some q → G (f q) (d + 0) → G (after_step (st c p) f) d
  now_again st c f p q d h e m = (after_kind (st c p) f d).1 (q, ap (st c) (sym (advance_none p h)) ∙ e, subst (G (f q)) (let z : d + 0 ≡ d = omega arith in z) m)

  waits_kind : (st : ℕ → Configuration → Option Configuration) (c : ℕ) (f : Configuration → Prospect) (k : ℕ) (p : Configuration) (d : ℕ) → Saturated p → G (waits st c f k p) d ↔ Soon st c f k p d
  unfolding waits
  waits_kind st c f zero p d h = (at_once st c f 0 p d h, λ w. go w.0 w.1 w.2 w.3 w.4)
    where
      go : (u : ℕ) → u ≤ 0 → (q : Configuration) → st c (advance u p) ≡ some q → G (f q) (d + u) → G (after_step (st c p) f) d
      go zero l q e m = now_again st c f p q d h e m
      go (suc u) l q e m = absurd (omega arith)
  waits_kind st c f (suc k) p d h =
      let r = waits_kind st c f k (advance 1 p) (suc d) (omega arith, omega arith) in
      let n = g.next (after_step (st c p) f) (waits st c f k (advance 1 p)) d in (
        λ m. ⊎_elim (at_once st c f (suc k) p d h)
            (λ x. let w = r.0 x in (1 + w.0, omega (arith, w.1), w.2, ap (st c) (sym (advance_more 1 w.0 p)) ∙ w.3, subst (G (f w.2)) (let z : suc d + w.0 ≡ d + (1 + w.0) = omega arith in z) w.4)) (n.0 m),
        λ w. n.1 (go w.0 w.1 w.2 w.3 w.4 r),
      )
    where
      go : (u : ℕ) → u ≤ suc k → (q : Configuration) → st c (advance u p) ≡ some q → G (f q) (d + u) → (G (waits st c f k (advance 1 p)) (suc d) ↔ Soon st c f k (advance 1 p) (suc d)) → G (after_step (st c p) f) d ⊎ G (waits st c f k (advance 1 p)) (suc d)
      go zero l q e m r = inl (now_again st c f p q d h e m)
      go (suc u) l q e m r =
          let z : 1 + u ≡ suc u = omega arith in
          inr (r.1 (u, omega arith, q, ap (st c) (advance_more 1 u p ∙ ap (λ (n : ℕ). advance n p) z) ∙ e, subst (G (f q)) (let z : d + suc u ≡ suc d + u = omega arith in z) m))

  -- A prospect is of the kind at a date just when after some wait the action leads to one.
  pub prospect_timed : (s : Bytes) (c : ℕ) (cs : List ℕ) (p : Configuration) (d : ℕ) → Saturated p → G (prospect (compile s) (c ∷ cs) p) d ↔ ((u : ℕ) × (q : Configuration) × (step s c (advance u p) ≡ some q) × G (prospect (compile s) cs q) (d + u))
  prospect_timed s c cs p d h =
      let w = waits_kind (compile s).step c (prospect (compile s) cs) (headroom p) p d h in
      let e = prospect_cons (compile s) c cs p in (
        λ m. let v = w.0 (subst (λ (a : Prospect). G a d) e m) in (v.0, v.2, sym (step_is s c (advance v.0 p)) ∙ v.3, v.4),
        λ v. subst⁻¹ (λ (a : Prospect). G a d) e (w.1 (go v.0 v.1 v.2 v.3 (ltb v.0 (headroom p)) refl)),
      )
    where
      go : (u : ℕ) (q : Configuration) → step s c (advance u p) ≡ some q → G (prospect (compile s) cs q) (d + u) → (b : Bool) → ltb u (headroom p) ≡ b → Soon (compile s).step c (prospect (compile s) cs) (headroom p) p d
      go u q e m true l = (u, omega (arith, ltb-true u (headroom p) l), q, step_is s c (advance u p) ∙ e, m)
      go u q e m false l =
          let k = ltb-false u (headroom p) l in
          (headroom p, omega arith, q, step_is s c (advance (headroom p) p) ∙ ap (step s c) (sym (advance_most u p h k)) ∙ e, g.sooner (prospect (compile s) cs q) (d + headroom p) (d + u) (omega arith) m)

-- The same of a kind that does not ask for the date.
pub prospect_kind : (G : Prospect → Type 0) → Kind G → (s : Bytes) (c : ℕ) (cs : List ℕ) (p : Configuration) → Saturated p → G (prospect (compile s) (c ∷ cs) p) ↔ ((u : ℕ) × (q : Configuration) × (step s c (advance u p) ≡ some q) × G (prospect (compile s) cs q))
prospect_kind G g s c cs p h = prospect_timed (λ a d. G a) (timeless g) s c cs p 0 h
