-- A list of actions by the transitions for the first of them and the waits at which they are enabled.
-- Assumes nothing.
use mathlib.Core.Path.{◌≡◌, refl, ap, sym, ◌∙◌, subst, subst⁻¹}
use mathlib.Core.Bool.{Bool, true, false}
use mathlib.Core.List.{List, [], ◌∷◌}
use mathlib.Core.Option.{some}
use mathlib.Core.Logic.{inl, inr, ◌↔◌}
use Prim.Native.Nat.{ℕ, ◌+◌, ◌-◌, ◌≤◌}
use native.Mathlib.Omega.{arith}
use lib.Dec.{leb}
use borrow.Author.Tests.{leb-true, leb-false}
use Rattle.enforcement.specs.Automaton.{Bytes, Transition, transitions, enabled}
use Rattle.enforcement.specs.Loading.{WellFormed, Fits, AllFit, Bounded}
use Rattle.enforcement.specs.TimedWord.{Configuration, fire, step}
use Rattle.enforcement.specs.Model.{advance, headroom, Prospect, prospect, compile}
use Rattle.enforcement.proofs.Tests.{test_true}
use Rattle.enforcement.proofs.Loading.{bounded}
use Rattle.retimer.specs.Waits.{saturation, along}
use Rattle.retimer.proofs.Intervals.{interval, end_is}
use Rattle.retimer.specs.Steps.{One}
use Rattle.retimer.proofs.Taking.{one_map, Taken, step_one}
use Rattle.retimer.proofs.ProspectKinds.{Timed, Kind, timeless, Saturated, advance_none, advance_more, advance_most, prospect_timed}
use Rattle.retimer.specs.Next.{Leads, LeadsFor}

-- ---- The waits of one transition

module _ {s : Bytes} (G : ℕ → Configuration → Type 0) (t : Transition) (f : Fits s t) (p : Configuration) (h : Saturated p) (e : ℕ) where
  -- It is enabled after a wait up to saturation.
  leads_soon : (u : ℕ) → e ≤ u → u ≤ saturation p.x p.y → enabled t (advance u p).x (advance u p).y ≡ true → G u (fire t (advance u p)) → Leads G p.x p.y e t
  leads_soon u a k w g = let i = (interval t p.x p.y u f.first f.second h.0 h.1 k).passes w in record { wait = u; reached = a; opened = i.0; open_still = i.1; good = g }

  -- It is enabled after some wait; where G holds of a wait beyond saturation, it holds of saturation.
  leads_at : e ≤ headroom p → ((u : ℕ) (q : Configuration) → headroom p ≤ u → G u q → G (headroom p) q) → (u : ℕ) → e ≤ u → enabled t (advance u p).x (advance u p).y ≡ true → G u (fire t (advance u p)) → Leads G p.x p.y e t
  leads_at b sooner u a w g = go (leb u (headroom p)) refl
    where
      go : (b : Bool) → leb u (headroom p) ≡ b → Leads G p.x p.y e t
      go true l = leads_soon u a (leb-true u (headroom p) l) w g
      go false l =
          let k : headroom p ≤ u = let k = leb-false u (headroom p) l in omega arith in
          let q = advance_most u p h k in
          leads_soon (headroom p) b (omega arith) (subst (λ (q : Configuration). enabled t q.x q.y ≡ true) q w) (sooner u (fire t (advance (headroom p) p)) k (subst (λ (q : Configuration). G u (fire t q)) q g))

  -- It is enabled at each wait of its interval.
  leads_on : (w : Leads G p.x p.y e t) → enabled t (advance w.wait p).x (advance w.wait p).y ≡ true
  leads_on w = test_true (interval t p.x p.y w.wait f.first f.second h.0 h.1 (end_is t p.x p.y w.wait w.open_still).2) (w.opened, w.open_still)

-- What holds where it leads may be weakened.
pub leads_map : {G H : ℕ → Configuration → Type 0} {x y e : ℕ} {t : Transition} → ((u : ℕ) → G u (fire t (along x y 0 u)) → H u (fire t (along x y 0 u))) → Leads G x y e t → Leads H x y e t
leads_map f w = record { wait = w.wait; reached = w.reached; opened = w.opened; open_still = w.open_still; good = f w.wait w.good }

-- ---- A list of actions

module _ (s : Bytes) (c : ℕ) (p : Configuration) (h : Saturated p) (e : ℕ) (H : ℕ → Configuration → Type 0) where
  -- One that leads there is taken after its wait.
  some_taken : (ts : List Transition) → AllFit s ts → One (LeadsFor c H p.x p.y e) ts → (u : ℕ) × (e ≤ u) × (q : Configuration) × One (Taken c (advance u p) q) ts × H u q
  some_taken [] a w = absurd w
  some_taken (t ∷ ts) a (inl w) = let v = w.1 in (v.wait, v.reached, fire t (advance v.wait p), inl (w.0, leads_on H t a.0 p h e v, refl), v.good)
  some_taken (t ∷ ts) a (inr w) = let r = some_taken ts a.1 w in (r.0, r.1, r.2, inr r.3, r.4)

-- From a position e of the diagonal of saturated readings, up to saturation, the prospect is of a kind just when one of the location's transitions for the first action leads, at a position
-- from e on of its interval, to a prospect of the kind.
pub prospect_leads : (G : Prospect → ℕ → Type 0) → Timed G → (s : Bytes) → WellFormed s → (c : ℕ) (cs : List ℕ) (p : Configuration) (e : ℕ) → Saturated p → e ≤ headroom p
    → G (prospect (compile s) (c ∷ cs) (advance e p)) e ↔ One (LeadsFor c (λ (u : ℕ) (q : Configuration). G (prospect (compile s) cs q) u) p.x p.y e) (transitions s p.location)
unfolding Bounded
prospect_leads G g s loads c cs p e h k = (to, from)
  where
    H : ℕ → Configuration → Type 0
    H u q = G (prospect (compile s) cs q) u

    sooner : (u : ℕ) (q : Configuration) → headroom p ≤ u → H u q → H (headroom p) q
    sooner u q l m = g.sooner (prospect (compile s) cs q) (headroom p) u l m

    to : G (prospect (compile s) (c ∷ cs) (advance e p)) e → One (LeadsFor c H p.x p.y e) (transitions s p.location)
    to m =
        let w = (prospect_timed G g s c cs (advance e p) e (omega arith, omega arith)).0 m in
        let u : ℕ = e + w.0 in
        let stepped : step s c (advance u p) ≡ some w.1 = ap (step s c) (sym (advance_more e w.0 p)) ∙ w.2 in
        one_map (transitions s p.location) (bounded s loads p.location) (λ t f a. (a.0, leads_at H t f p h e k sooner u (omega arith) a.1 (subst (H u) (sym a.2) w.3))) ((step_one s loads c (advance u p) w.1).0 stepped)

    from : One (LeadsFor c H p.x p.y e) (transitions s p.location) → G (prospect (compile s) (c ∷ cs) (advance e p)) e
    from w =
        let r = some_taken s c p h e H (transitions s p.location) (bounded s loads p.location) w in
        let n : e + (r.0 - e) ≡ r.0 = omega (arith, r.1) in
        let stepped = (step_one s loads c (advance r.0 p) r.2).1 r.3 in
        (prospect_timed G g s c cs (advance e p) e (omega arith, omega arith)).1
        (r.0 - e, r.2, ap (step s c) (advance_more e (r.0 - e) p ∙ ap (λ (i : ℕ). advance i p) n) ∙ stepped, subst⁻¹ (H' r.2) n r.4)
      where
        H' : Configuration → ℕ → Type 0
        H' q u = H u q

-- The same of a kind that does not ask for the date, from the readings themselves.
pub kind_leads : (G : Prospect → Type 0) → Kind G → (s : Bytes) → WellFormed s → (c : ℕ) (cs : List ℕ) (p : Configuration) → Saturated p
    → G (prospect (compile s) (c ∷ cs) p) ↔ One (LeadsFor c (λ (u : ℕ) (q : Configuration). G (prospect (compile s) cs q)) p.x p.y 0) (transitions s p.location)
kind_leads G g s loads c cs p h =
    subst (λ (q : Configuration). G (prospect (compile s) (c ∷ cs) q) ↔ One (LeadsFor c (λ (u : ℕ) (q : Configuration). G (prospect (compile s) cs q)) p.x p.y 0) (transitions s p.location)) (advance_none p h)
    (prospect_leads (λ a d. G a) (timeless g) s loads c cs p 0 h (omega arith))
