-- Readings that are carried along are the ticks since the loading date or the clock's last reset.
-- Assumes nothing.
use mathlib.Core.Path.{◌≡◌, refl, subst⁻¹}
use mathlib.Core.Bool.{Bool, true, false, cond, ◌&&◌}
use mathlib.Core.List.{List, [], ◌∷◌}
use mathlib.Core.Option.{Option, none, some}
use mathlib.Core.Logic.{◌↔◌}
use Prim.Native.Nat.{ℕ, ◌-◌, ◌≤◌}
use native.Mathlib.Omega.{arith}
use lib.Dec.{eqb}
use Rattle.enforcement.specs.Automaton.{Automaton, Transition, transitions, enabled, bit}
use Rattle.enforcement.specs.TimedWord.{Configuration, Event, elapse, fire, fire_first, step, Found, Run, Accepting, Accepts}
use Rattle.enforcement.specs.Clocks.{Since, loading, taken_at, take_first, Taken, Satisfies}
use Rattle.enforcement.proofs.Saturation.{configuration_path}

-- The readings at t.
abbrev read_at : ℕ → Since → Configuration
read_at t p = record { location = p.location; x = t - p.first; y = t - p.second }

-- Neither clock counts from after d.
abbrev By : ℕ → Since → Type 0
By d p = (p.first ≤ d) × (p.second ≤ d)

later_by : {d t : ℕ} (p : Since) → d ≤ t → By d p → By t p
later_by p l h = (omega arith, omega arith)

elapse_read : (d t : ℕ) (p : Since) → d ≤ t → By d p → elapse (t - d) (read_at d p) ≡ read_at t p
elapse_read d t p l h = configuration_path (omega arith) (omega arith)

-- A clock that is reset reads 0, and the other is kept.
reset_read : (b : Bool) (t n : ℕ) → cond b 0 (t - n) ≡ t - cond b t n
reset_read true t n = omega arith
reset_read false t n = refl

fire_read : (u : Transition) (t : ℕ) (p : Since) → fire u (read_at t p) ≡ read_at t (taken_at t u p)
fire_read u t p = configuration_path (reset_read (bit u.resets 0) t p.first) (reset_read (bit u.resets 1) t p.second)

reset_by_lem : (b : Bool) (t n : ℕ) → n ≤ t → cond b t n ≤ t
reset_by_lem true t n h = omega arith
reset_by_lem false t n h = h

-- Both find the same transition.
abbrev Same : ℕ → Option Configuration → Option Since → Type 0
Same t none none = Unit {0}
Same t none (some q) = ⊥
Same t (some p) none = ⊥
Same t (some p) (some q) = (p ≡ read_at t q) × By t q

same_found : (us : List Transition) (c t : ℕ) (p : Since) → By t p → Same t (fire_first us c (read_at t p)) (take_first us c t p)
unfolding fire_first take_first
same_found [] c t p h = tt
same_found (u ∷ us) c t p h = go (eqb u.action c && enabled u (t - p.first) (t - p.second)) (same_found us c t p h)
  where
    go : (b : Bool) → Same t (fire_first us c (read_at t p)) (take_first us c t p) → Same t (cond b (some (fire u (read_at t p))) (fire_first us c (read_at t p))) (cond b (some (taken_at t u p)) (take_first us c t p))
    go true k = (fire_read u t p, (reset_by_lem (bit u.resets 0) t p.first h.0, reset_by_lem (bit u.resets 1) t p.second h.1))
    go false k = k

module _ (a : Automaton) where
  abbrev Carried : ℕ → Configuration → List Event → Type 0
  Carried d q w = Run (step a.bytes) (Accepting a) d q w

  found_same : (t : ℕ) (w : List Event) (o : Option Configuration) (z : Option Since) → Same t o z → ((q : Since) → By t q → Carried t (read_at t q) w ↔ Satisfies a.bytes t q w)
      → Found o (λ (q : Configuration). Carried t q w) ↔ Taken z (λ (q : Since). Satisfies a.bytes t q w)
  found_same t w none none h f = (λ x. x, λ x. x)
  found_same t w none (some q) h f = absurd h
  found_same t w (some p) none h f = absurd h
  found_same t w (some p) (some q) h f = subst⁻¹ (λ (r : Configuration). Carried t r w ↔ Satisfies a.bytes t q w) h.0 (f q h.1)

  next_same : (t : ℕ) (w : List Event) → ((q : Since) → By t q → Carried t (read_at t q) w ↔ Satisfies a.bytes t q w) → (d c : ℕ) (p : Since) → d ≤ t → By d p
      → Found (step a.bytes c (elapse (t - d) (read_at d p))) (λ (q : Configuration). Carried t q w) ↔ Taken (take_first (transitions a.bytes p.location) c t p) (λ (q : Since). Satisfies a.bytes t q w)
  unfolding step
  next_same t w f d c p l h =
      subst⁻¹ (λ (r : Configuration). Found (step a.bytes c r) (λ (q : Configuration). Carried t q w) ↔ Taken (take_first (transitions a.bytes p.location) c t p) (λ (q : Since). Satisfies a.bytes t q w)) (elapse_read d t p l h)
      (found_same t w (fire_first (transitions a.bytes p.location) c (read_at t p)) (take_first (transitions a.bytes p.location) c t p) (same_found (transitions a.bytes p.location) c t p (later_by p l h)) f)

  runs_same : (w : List Event) (d : ℕ) (p : Since) → By d p → Carried d (read_at d p) w ↔ Satisfies a.bytes d p w
  runs_same [] d p h = (λ x. x, λ x. x)
  runs_same (e ∷ w) d p h =
      let f : (q : Since) → By e.date q → Carried e.date (read_at e.date q) w ↔ Satisfies a.bytes e.date q w = λ q k. runs_same w e.date q k in
      (λ x. (x.0, (next_same e.date w f d e.action p x.0 h).0 x.1), λ x. (x.0, (next_same e.date w f d e.action p x.0 h).1 x.1))

  -- The automaton accepts a timed word exactly when it satisfies the sheet by the dates of the clocks' last resets, which are the loading date at first.
  pub clocks_right : (w : List Event) → Accepts a w ↔ Satisfies a.bytes a.loaded (loading a) w
  unfolding Accepts
  clocks_right w = let z : a.loaded - a.loaded ≡ 0 = omega arith in rw z at (runs_same w a.loaded (loading a) (omega arith, omega arith))
