-- What is live before a wait, the prospect where all is played, and the answer for a prospect.
-- Assumes nothing.
use mathlib.Core.Path.{◌≡◌, refl, ap, ◌∙◌, subst, subst⁻¹}
use mathlib.Core.Bool.{Bool, true, false, cond}
use mathlib.Core.List.{[]}
use mathlib.Core.Logic.{◌↔◌}
use Prim.Native.Nat.{ℕ, zero, suc, ◌+◌}
use native.Mathlib.Omega.{arith}
use Rattle.enforcement.specs.Automaton.{Bytes, accepting, actions}
use Rattle.enforcement.specs.Loading.{WellFormed}
use Rattle.enforcement.specs.TimedWord.{Configuration, step}
use Rattle.enforcement.specs.Model.{advance, Prospect, ticks, extensible, dead, ended, compile, prospect}
use Rattle.enforcement.specs.Monitor.{is_dead}
use Rattle.enforcement.proofs.Equations.{prospect_nil}
use Rattle.enforcement.proofs.Liveness.{Live, here, tick}
use Rattle.enforcement.proofs.Compilation.{live_search}
use Rattle.enforcement.proofs.Loading.{bounded}
use Rattle.retimer.specs.declared.outlook.Outlook.TheVariants.{Correct, Extensible, Dead}
use Rattle.retimer.specs.Outlook.{outlook_of, Ends, Lives}
use Rattle.retimer.proofs.ProspectKinds.{Saturated, advance_none, advance_more}

-- ---- Waiting adds nothing that is live

pub sooner_lives : (s : Bytes) (n : ℕ) (p : Configuration) → Saturated p → Live (step s) (accepting s) (actions s) (advance n p) → Live (step s) (accepting s) (actions s) p
sooner_lives s zero p h m = subst (Live (step s) (accepting s) (actions s)) (advance_none p h) m
sooner_lives s (suc n) p h m =
    let e : 1 + n ≡ suc n = omega arith in
    tick (sooner_lives s n (advance 1 p) (omega arith, omega arith) (subst⁻¹ (Live (step s) (accepting s) (actions s)) (advance_more 1 n p ∙ ap (λ (k : ℕ). advance k p) e) m))

pub sooner_live : (s : Bytes) → WellFormed s → (n : ℕ) (p : Configuration) → Saturated p → (compile s).live (advance n p) ≡ true → (compile s).live p ≡ true
sooner_live s loads n p h m = (live_search s (bounded s loads) p h.0 h.1).1 (sooner_lives s n p h ((live_search s (bounded s loads) (advance n p) (omega arith) (omega arith)).0 m))

-- ---- All is played

nil_is : (s : Bytes) (q : Configuration) (a b : Bool) → accepting s q.location ≡ a → (compile s).live q ≡ b → prospect (compile s) [] q ≡ cond a (ticks 0) (cond b extensible dead)
unfolding ended compile
nil_is s q a b e f = prospect_nil (compile s) q ∙ rw (e, f) refl

-- An accepting location is live.
accepting_live : (s : Bytes) → WellFormed s → (q : Configuration) → Saturated q → accepting s q.location ≡ true → (compile s).live q ≡ true
accepting_live s loads q h e = (live_search s (bounded s loads) q h.0 h.1).1 (here e)

pub ends_nil : (s : Bytes) (q : Configuration) → Ends (prospect (compile s) [] q) ↔ (accepting s q.location ≡ true)
ends_nil s q = (λ h. to (accepting s q.location) refl ((compile s).live q) refl h, λ e. subst⁻¹ Ends (nil_is s q true ((compile s).live q) e refl) tt)
  where
    to : (a : Bool) → accepting s q.location ≡ a → (b : Bool) → (compile s).live q ≡ b → Ends (prospect (compile s) [] q) → accepting s q.location ≡ true
    to true e b f h = e
    to false e true f h = absurd (subst Ends (nil_is s q false true e f) h)
    to false e false f h = absurd (subst Ends (nil_is s q false false e f) h)

pub lives_nil : (s : Bytes) → WellFormed s → (q : Configuration) → Saturated q → Lives (prospect (compile s) [] q) ↔ ((compile s).live q ≡ true)
lives_nil s loads q k = (λ h. to (accepting s q.location) refl ((compile s).live q) refl h, λ f. from (accepting s q.location) refl f)
  where
    to : (a : Bool) → accepting s q.location ≡ a → (b : Bool) → (compile s).live q ≡ b → Lives (prospect (compile s) [] q) → (compile s).live q ≡ true
    to true e b f h = accepting_live s loads q k e
    to false e true f h = f
    to false e false f h = absurd (subst Lives (nil_is s q false false e f) h)

    from : (a : Bool) → accepting s q.location ≡ a → (compile s).live q ≡ true → Lives (prospect (compile s) [] q)
    from true e f = subst⁻¹ Lives (nil_is s q true true e f) tt
    from false e f = subst⁻¹ Lives (nil_is s q false true e f) tt

-- ---- The answer

pub ends_is : (a : Prospect) (x : Bool) → Ends a → Correct ≡ outlook_of a x
ends_is (ticks n) x h = refl
ends_is extensible x h = absurd h
ends_is dead x h = absurd h

pub lives_is : (a : Prospect) (x : Bool) → (Ends a → ⊥) → Lives a → Extensible ≡ outlook_of a x
lives_is (ticks n) x h k = absurd (h tt)
lives_is extensible x h k = refl
lives_is dead x h k = absurd k

pub dead_is : (a : Prospect) {x y : Bool} → (Lives a → ⊥) → y ≡ x → Dead y ≡ outlook_of a x
dead_is (ticks n) h e = absurd (h tt)
dead_is extensible h e = absurd (h tt)
dead_is dead h e = ap Dead e

-- What is false just when the prospect is not dead.
pub dark_is : (a : Prospect) (x : Bool) → (x ≡ false) ↔ Lives a → x ≡ is_dead a
dark_is (ticks n) x h = h.1 tt
dark_is extensible x h = h.1 tt
dark_is dead true h = refl
dark_is dead false h = absurd (h.0 refl)
