-- What a single action comes to, and whether any next action leads to a live configuration, by the location's transitions.
-- Assumes nothing.
use mathlib.Core.Path.{◌≡◌, refl, subst}
use mathlib.Core.Bool.{Bool, true, false, ◌&&◌}
use mathlib.Core.List.{List, [], ◌∷◌}
use mathlib.Core.Logic.{inl, inr, ◌↔◌}
use Prim.Native.Nat.{ℕ, zero, suc, ◌+◌, ◌<◌, min}
use native.Mathlib.Omega.{arith}
use lib.Dec.{eqb}
use borrow.Author.Tests.{eqb-true, eqb-false}
use Rattle.enforcement.specs.Automaton.{Bytes, Transition, transitions, accepting, actions, bit}
use Rattle.enforcement.specs.Loading.{WellFormed, AllFit, Bounded}
use Rattle.enforcement.specs.TimedWord.{Configuration, fire}
use Rattle.enforcement.specs.Model.{top, Prospect, ticks, extensible, dead, Compiled, prospect, compile}
use Rattle.enforcement.specs.Monitor.{is_dead, none_next}
use Rattle.enforcement.proofs.Tests.{Finds}
use Rattle.enforcement.proofs.Loading.{bounded}
use Rattle.retimer.specs.Waits.{first_wait, end_wait, along}
use Rattle.retimer.specs.Steps.{One}
use Rattle.retimer.specs.Outlook.{Ends, Lives}
use Rattle.retimer.proofs.ProspectKinds.{Saturated, ends_kind, lives_kind}
use Rattle.retimer.specs.Next.{Leads, LeadsFor}
use Rattle.retimer.proofs.Valuations.{cond_most}
use Rattle.retimer.proofs.Taking.{one_map}
use Rattle.retimer.proofs.Played.{ends_nil, lives_nil}
use Rattle.retimer.proofs.Ways.{leads_map, kind_leads}

-- ---- One transition

-- Where a transition leads after a wait, the readings are saturated.
fired_saturated : (t : Transition) (x y u : ℕ) → Saturated (fire t (along x y 0 u))
fired_saturated t x y u = (cond_most (bit t.resets 0) (min (x + u) top) top (omega arith), cond_most (bit t.resets 1) (min (y + u) top) top (omega arith))

-- A configuration that is live.
abbrev pub LiveIn : Bytes → ℕ → Configuration → Type 0
LiveIn s u q = (compile s).live q ≡ true

-- A transition for the action c is enabled after some wait and has an accepting target.
abbrev pub EndsFor : Bytes → ℕ → ℕ → ℕ → Transition → Type 0
EndsFor s c x y t = ((t.action ≡ c) × (first_wait t x y < end_wait t x y)) × (accepting s t.target ≡ true)

-- ---- A single action

module _ (s : Bytes) (loads : WellFormed s) (p : Configuration) (h : Saturated p) where
  -- It has a correction just when a transition for it, enabled after some wait, has an accepting target.
  pub single_ends : (c : ℕ) → Ends (prospect (compile s) (c ∷ []) p) ↔ One (EndsFor s c p.x p.y) (transitions s p.location)
  unfolding Bounded
  single_ends c =
      let w = kind_leads Ends ends_kind s loads c [] p h in
      let fit = bounded s loads p.location in (
        λ m. one_map (transitions s p.location) fit (λ t f v. ((v.0, omega (arith, v.1.opened, v.1.open_still)), (ends_nil s (fire t (along p.x p.y 0 v.1.wait))).0 v.1.good)) (w.0 m),
        λ m. w.1 (one_map (transitions s p.location) fit (λ t f v. (v.0.0, record { wait = first_wait t p.x p.y; reached = omega arith; opened = omega arith; open_still = v.0.1; good = (ends_nil s (fire t (along p.x p.y 0 (first_wait t p.x p.y)))).1 v.1 })) m),
      )

  -- It is not dead just when a transition for it leads, after some wait, to a live configuration.
  pub single_lives : (c : ℕ) → Lives (prospect (compile s) (c ∷ []) p) ↔ One (LeadsFor c (LiveIn s) p.x p.y 0) (transitions s p.location)
  unfolding Bounded
  single_lives c =
      let w = kind_leads Lives lives_kind s loads c [] p h in
      let fit = bounded s loads p.location in (
        λ m. one_map (transitions s p.location) fit (λ t f v. (v.0, leads_map (λ u g. (lives_nil s loads (fire t (along p.x p.y 0 u)) (fired_saturated t p.x p.y u)).0 g) v.1)) (w.0 m),
        λ m. w.1 (one_map (transitions s p.location) fit (λ t f v. (v.0, leads_map (λ u g. (lives_nil s loads (fire t (along p.x p.y 0 u)) (fired_saturated t p.x p.y u)).1 g) v.1)) m),
      )

-- ---- Any next action

-- One of the first n actions is not dead.
abbrev pub NextLives : Compiled → Configuration → ℕ → Type 0
NextLives m p n = (c : ℕ) × (c < n) × Lives (prospect m (c ∷ []) p)

dead_lives : (a : Prospect) → is_dead a ≡ true → Lives a → ⊥
dead_lives (ticks n) e h = let z : ◌≡◌ {A = ℕ} 0 1 = cc in omega arith
dead_lives extensible e h = let z : ◌≡◌ {A = ℕ} 0 1 = cc in omega arith
dead_lives dead e h = h

not_dead : (a : Prospect) → is_dead a ≡ false → Lives a
not_dead (ticks n) e = tt
not_dead extensible e = tt
not_dead dead e = let z : ◌≡◌ {A = ℕ} 0 1 = cc in absurd (omega arith)

-- The model's search over the actions finds one.
pub none_next_finds : (m : Compiled) (p : Configuration) (n : ℕ) → Finds (none_next m p n) (NextLives m p n)
unfolding none_next
none_next_finds m p zero = record { passes = λ e w. omega (arith, w.1); fails = λ e. let z : ◌≡◌ {A = ℕ} 0 1 = cc in absurd (omega arith) }
none_next_finds m p (suc n) = go (is_dead (prospect m (n ∷ []) p)) refl (none_next m p n) (none_next_finds m p n)
  where
    go : (a : Bool) → is_dead (prospect m (n ∷ []) p) ≡ a → (b : Bool) → Finds b (NextLives m p n) → Finds (a && b) (NextLives m p (suc n))
    go true e b f = record { passes = λ k w. last b f k w.0 w.1 w.2 (eqb w.0 n) refl; fails = λ k. let w = f.fails k in (w.0, omega (arith, w.1), w.2) }
      where
        last : (b : Bool) → Finds b (NextLives m p n) → b ≡ true → (c : ℕ) → c < suc n → Lives (prospect m (c ∷ []) p) → (d : Bool) → eqb c n ≡ d → ⊥
        last b f k c l v true q = dead_lives (prospect m (n ∷ []) p) e (subst (λ (i : ℕ). Lives (prospect m (i ∷ []) p)) (eqb-true c n q) v)
        last b f k c l v false q = let z = eqb-false c n q in f.passes k (c, omega arith, v)
    go false e b f = record { passes = λ k. let z : ◌≡◌ {A = ℕ} 0 1 = cc in absurd (omega arith); fails = λ k. (n, omega arith, not_dead (prospect m (n ∷ []) p) e) }

-- Some next action is not dead just when a transition leads, after some wait, to a live configuration.
pub next_lives : (s : Bytes) → WellFormed s → (p : Configuration) → Saturated p → NextLives (compile s) p (actions s) ↔ One (Leads (LiveIn s) p.x p.y 0) (transitions s p.location)
unfolding Bounded
next_lives s loads p h = (
  λ w. one_map (transitions s p.location) fit (λ t f v. v.1) ((single_lives s loads p h w.0).0 w.2),
  λ w. let v = one_keep (transitions s p.location) fit w in (v.0, v.1, (single_lives s loads p h v.0).1 v.2),
)
  where
    fit : AllFit s (transitions s p.location)
    fit = bounded s loads p.location

    -- The action of one that leads there.
    one_keep : (ts : List Transition) → AllFit s ts → One (Leads (LiveIn s) p.x p.y 0) ts → (c : ℕ) × (c < actions s) × One (LeadsFor c (LiveIn s) p.x p.y 0) ts
    one_keep [] a w = absurd w
    one_keep (t ∷ ts) a (inl w) = (t.action, a.0.action_fits, inl (refl, w))
    one_keep (t ∷ ts) a (inr w) = let r = one_keep ts a.1 w in (r.0, r.1, inr r.2)
