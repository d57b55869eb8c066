-- Laws of the loops: the waits of a transition, and the places of a location's transitions.
-- Assumes nothing.
use mathlib.Core.Path.{◌≡◌, refl, ap, sym, ◌∙◌, subst}
use mathlib.Core.Bool.{Bool, true, false, false≢true}
use mathlib.Core.List.{List, [], ◌∷◌}
use mathlib.Core.Logic.{inr, ◌↔◌}
use Prim.Native.Nat.{ℕ, ◌+◌, ◌*◌, ◌≤◌, ◌<◌}
use native.Mathlib.Omega.{arith}
use lib.Dec.{eqb}
use lib.ListN.{get_or}
use borrow.Author.Tests.{eqb-true, eqb-false}
use Rattle.enforcement.specs.Automaton.{Bytes, Transition, accepting, actions, byte, word, transition_at}
use Rattle.enforcement.specs.TimedWord.{Configuration, fire}
use Rattle.enforcement.specs.Model.{prospect, compile}
use Rattle.enforcement.specs.Monitor.{none_next, is_lit}
use Rattle.enforcement.proofs.Tests.{true_false}
use Rattle.retimer.specs.Readings.{waited, reset_by, located, Standing}
use Rattle.retimer.specs.Optimum.{LampAsked}
use Rattle.retimer.proofs.Valuations.{located_reset, located_waited, standing_waited, standing_fired}
use Rattle.retimer.proofs.Left.{Left, left_begun, left_fits, left_inside, left_found, left_next, left_passed, left_none}
use Rattle.retimer.specs.Waits.{first_wait, end_wait, along}
use Rattle.retimer.specs.declared.outlook.Outlook.TheVariants.{Correct, Extensible, Dead}
use Rattle.retimer.specs.Outlook.{outlook_of, Ends, Lives}
use Rattle.retimer.proofs.ProspectKinds.{Saturated}
use Rattle.retimer.specs.Next.{Opens, LeadsFor, LeadsLive, LeadsAsked}
use Rattle.retimer.proofs.Singles.{LiveIn, EndsFor, NextLives, single_ends, single_lives, next_lives, none_next_finds}
use Rattle.retimer.proofs.Played.{ends_is, lives_is, dead_is}
use Rattle.retimer.proofs.Stuck.{lit_empty}

-- ---- The waits of a transition

-- None of the waits below u leads to a live configuration.
abbrev pub NoneLive : Bytes → List ℕ → Transition → ℕ → Type 0
NoneLive s r t u = (w : ℕ) → first_wait t (get_or r 0 0) (get_or r 1 0) ≤ w → w < u → (compile s).live (fire t (along (get_or r 0 0) (get_or r 1 0) 0 w)) ≡ true → ⊥

pub none_more : (s : Bytes) (r : List ℕ) (t : Transition) (u : ℕ) → NoneLive s r t u → (compile s).live (fire t (along (get_or r 0 0) (get_or r 1 0) 0 u)) ≡ false → NoneLive s r t (u + 1)
none_more s r t u n f w h k g = go (eqb w u) refl
  where
    go : (b : Bool) → eqb w u ≡ b → ⊥
    go true e = false≢true (sym f ∙ subst (λ (i : ℕ). (compile s).live (fire t (along (get_or r 0 0) (get_or r 1 0) 0 i)) ≡ true) (eqb-true w u e) g)
    go false e = let z = eqb-false w u e in n w h (omega arith) g

pub found_live : (s : Bytes) (r : List ℕ) (t : Transition) (u e : ℕ) → e ≡ end_wait t (get_or r 0 0) (get_or r 1 0) → first_wait t (get_or r 0 0) (get_or r 1 0) ≤ u → u < e → (compile s).live (fire t (along (get_or r 0 0) (get_or r 1 0) 0 u)) ≡ true
    → (true ≡ true) ↔ LeadsLive s r t
found_live s r t u e q h k g = (λ _. record { wait = u; reached = omega arith; opened = h; open_still = omega arith; good = g }, λ _. refl)

-- The readings after a wait and the transition at p, as the code has them.
module _ (s : Bytes) (live : List ℕ) (p : ℕ) (r : List ℕ) (a : LeadsAsked s live p r) (u : ℕ) (v q : List ℕ) (e : v ≡ waited u r) (f : q ≡ reset_by (byte s (p + 2)) v) where
  asked_standing : Standing s (byte s (p + 1)) r
  asked_standing = record { in_sheet = a.fits.target_fits; readings = a.valuation.readings; one_clock = a.valuation.one_clock }

  pub fired_standing : Standing s (byte s (p + 1)) q
  fired_standing = rw (f, e) (standing_fired s (byte s (p + 1)) (waited u r) (transition_at s p) a.fits (standing_waited s (byte s (p + 1)) u r asked_standing))

  pub fired_live : (compile s).live (located (byte s (p + 1)) q) ≡ (compile s).live (fire (transition_at s p) (along (get_or r 0 0) (get_or r 1 0) 0 u))
  fired_live = ap (λ (o : Configuration). (compile s).live o) (ap (located (byte s (p + 1))) (f ∙ ap (reset_by (byte s (p + 2))) e) ∙ located_reset (transition_at s p) 0 (waited u r) ∙ ap (fire (transition_at s p)) (located_waited 0 u r))

-- What is asked for the transition at p.
pub left_asked : {s live : List ℕ} {l : ℕ} {r : List ℕ} {W A : Type 0} {Q : Transition → Type 0} {p e : ℕ} → LampAsked s live l r → Left s W A Q p e → p < e → LeadsAsked s live p r
left_asked a m h = record { table = a.table; inside = left_inside m h; fits = left_fits m h; valuation = record { readings = a.standing.readings; one_clock = a.standing.one_clock } }

-- ---- A single action

-- The transitions at places p up to e are left: none before them ends the action c, and `found` says whether one leads to a live configuration.
pub record Looking (s : Bytes) (c l : ℕ) (r : List ℕ) (found : Bool) (p e : ℕ) : Type 0 where
  pub ends : Left s (Ends (prospect (compile s) (c ∷ []) (located l r))) ⊥ (EndsFor s c (get_or r 0 0) (get_or r 1 0)) p e
  pub lives : Left s (Lives (prospect (compile s) (c ∷ []) (located l r))) (found ≡ true) (LeadsFor c (LiveIn s) (get_or r 0 0) (get_or r 1 0) 0) p e

pub looking_begun : (s live : List ℕ) (c l : ℕ) (r : List ℕ) (w v n : ℕ) → LampAsked s live l r → w ≡ l → v ≡ word s (6 + 4 * w) → n ≡ word s (6 + 4 * w + 2) → Looking s c l r false v (v + n)
looking_begun s live c l r w v n a d e f =
    let h : Saturated (located l r) = (a.standing.readings.first, a.standing.readings.second) in
    record {
      ends = left_begun s (Ends (prospect (compile s) (c ∷ []) (located l r))) ⊥ (EndsFor s c (get_or r 0 0) (get_or r 1 0)) l w v n a.loads a.standing.in_sheet d e f (λ z. z) (single_ends s a.loads (located l r) h c);
      lives = left_begun s (Lives (prospect (compile s) (c ∷ []) (located l r))) (false ≡ true) (LeadsFor c (LiveIn s) (get_or r 0 0) (get_or r 1 0) 0) l w v n a.loads a.standing.in_sheet d e f false≢true (single_lives s a.loads (located l r) h c);
    }

module _ {s : Bytes} {c l : ℕ} {r : List ℕ} {found : Bool} {p e : ℕ} (m : Looking s c l r found p e) where
  pub looking_correct : (x : Bool) → p < e → Opens c r (transition_at s p) → accepting s (byte s (p + 1)) ≡ true → Correct ≡ outlook_of (prospect (compile s) (c ∷ []) (located l r)) x
  looking_correct x h o a = ends_is (prospect (compile s) (c ∷ []) (located l r)) x (left_found m.ends h (o, a))

  -- It is for another action, or never enabled.
  pub looking_other : p < e → (Opens c r (transition_at s p) → ⊥) → Looking s c l r found (p + 7) e
  looking_other h o = record {
    ends = left_passed m.ends h (λ w. o w.0);
    lives = left_passed m.lives h (λ w. o (w.0, omega (arith, w.1.opened, w.1.open_still)));
  }

  pub looking_live : p < e → Opens c r (transition_at s p) → accepting s (byte s (p + 1)) ≡ false → LeadsLive s r (transition_at s p) → Looking s c l r true (p + 7) e
  looking_live h o a w = record {
    ends = left_passed m.ends h (λ v. true_false v.1 a);
    lives = left_next m.lives h (λ _. inr (o.0, w), λ _. refl);
  }

  pub looking_dead : p < e → accepting s (byte s (p + 1)) ≡ false → (LeadsLive s r (transition_at s p) → ⊥) → Looking s c l r found (p + 7) e
  looking_dead h a w = record {
    ends = left_passed m.ends h (λ v. true_false v.1 a);
    lives = left_passed m.lives h (λ v. w v.1);
  }

  pub looking_extensible : (x : Bool) → e ≤ p → found ≡ true → Extensible ≡ outlook_of (prospect (compile s) (c ∷ []) (located l r)) x
  looking_extensible x h f = lives_is (prospect (compile s) (c ∷ []) (located l r)) x (left_none m.ends h).0 ((left_none m.lives h).1 f)

  pub looking_none : {x : Bool} → e ≤ p → found ≡ false → x ≡ none_next (compile s) (located l r) (actions s) → Dead x ≡ outlook_of (prospect (compile s) (c ∷ []) (located l r)) (is_lit (compile s) (located l r) [])
  looking_none {x} h f k = dead_is (prospect (compile s) (c ∷ []) (located l r)) (λ w. true_false ((left_none m.lives h).0 w) f) (lit_empty s (located l r) [] x refl k)

-- ---- Any next action

-- The transitions at places p up to e are left: none before them leads to a live configuration.
pub record Nexting (s : Bytes) (l : ℕ) (r : List ℕ) (p e : ℕ) : Type 0 where
  pub left : Left s (NextLives (compile s) (located l r) (actions s)) ⊥ (LeadsLive s r) p e

pub nexting_begun : (s live : List ℕ) (l : ℕ) (r : List ℕ) (w v n : ℕ) → LampAsked s live l r → w ≡ l → v ≡ word s (6 + 4 * w) → n ≡ word s (6 + 4 * w + 2) → Nexting s l r v (v + n)
nexting_begun s live l r w v n a d e f =
    record {
      left = left_begun s (NextLives (compile s) (located l r) (actions s)) ⊥ (LeadsLive s r) l w v n a.loads a.standing.in_sheet d e f (λ z. z)
          (next_lives s a.loads (located l r) (a.standing.readings.first, a.standing.readings.second));
    }

module _ {s : Bytes} {l : ℕ} {r : List ℕ} {p e : ℕ} (m : Nexting s l r p e) where
  pub nexting_found : p < e → LeadsLive s r (transition_at s p) → false ≡ none_next (compile s) (located l r) (actions s)
  nexting_found h w = go (none_next (compile s) (located l r) (actions s)) refl
    where
      go : (b : Bool) → none_next (compile s) (located l r) (actions s) ≡ b → false ≡ none_next (compile s) (located l r) (actions s)
      go true q = absurd ((none_next_finds (compile s) (located l r) (actions s)).passes q (left_found m.left h w))
      go false q = sym q

  pub nexting_passed : p < e → (LeadsLive s r (transition_at s p) → ⊥) → Nexting s l r (p + 7) e
  nexting_passed h z = record { left = left_passed m.left h z }

  pub nexting_none : e ≤ p → true ≡ none_next (compile s) (located l r) (actions s)
  nexting_none h = go (none_next (compile s) (located l r) (actions s)) refl
    where
      go : (b : Bool) → none_next (compile s) (located l r) (actions s) ≡ b → true ≡ none_next (compile s) (located l r) (actions s)
      go true q = sym q
      go false q = absurd ((left_none m.left h).0 ((none_next_finds (compile s) (located l r) (actions s)).fails q))
