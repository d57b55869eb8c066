-- The joined sheet's runs are those of both sheets.
-- Assumes nothing.
use mathlib.Core.Path.{◌≡◌, refl, ap, ◌∙◌}
use mathlib.Core.Bool.{Bool, true, false, ◌&&◌}
use mathlib.Core.List.{List, [], ◌∷◌, ◌++◌}
use mathlib.Core.Option.{Option}
use mathlib.Core.Logic.{◌↔◌}
use Prim.Native.Nat.{ℕ, ◌-◌}
use lib.Dec.{T}
use Rattle.enforcement.specs.Automaton.{Bytes, automaton, locations, accepting}
use Rattle.enforcement.specs.TimedWord.{Configuration, Event, Found, Run, step, origin, Accepts, stamp, Timing}
use Rattle.enforcement.proofs.Loading.{initial_fits, bounded}
use Rattle.enforcement.proofs.Saturation.{Ending}
use Rattle.product.specs.Product.{first_of, second_of, joined, Joinable, ReadsBoth, RunsBoth}
use Rattle.product.proofs.Pairing.{pair_first, pair_second}
use Rattle.product.proofs.Reading.{reads_both}
use Rattle.product.proofs.OneClock.{first_clock, second_clock}
use Rattle.product.proofs.Stepping.{Paired, Meets, none_first, none_second, both, elapse_paired, step_meets}

T_and : (x y : Bool) → T (x && y) ↔ (T x × T y)
T_and true y = (λ h. (tt, h), λ h. h.1)
T_and false y = (λ h. absurd h, λ h. h.0)

module _ {s u : Bytes} (j : Joinable s u) (b : ReadsBoth s u) where
  meets : (c : ℕ) {r p q : Configuration} → Paired s u r p q → Meets s u (step (joined s u) c r) (step s c p) (step u c q)
  meets c h = step_meets s u (first_clock j) (second_clock j) b (bounded s j.first) (bounded u j.second) c h

  origin_paired : (d : ℕ) → Paired s u (origin (automaton (joined s u) d)) (origin (automaton s d)) (origin (automaton u d))
  origin_paired d = record { place = b.begins; first_reading = refl; second_reading = refl; first_fits = initial_fits s j.first; second_fits = initial_fits u j.second }

  -- ---- Runs with endings that agree on paired configurations

  abbrev Agree : Ending → Ending → Ending → Type 0
  Agree R P Q = (e : ℕ) (r p q : Configuration) → Paired s u r p q → R e r ↔ (P e p × Q e q)

  found_both : {R P Q : Configuration → Type 0} {o x y : Option Configuration} → ((r p q : Configuration) → Paired s u r p q → R r ↔ (P p × Q q)) → Meets s u o x y → Found o R ↔ (Found x P × Found y Q)
  found_both f none_first = (λ k. absurd k, λ k. k.0)
  found_both f none_second = (λ k. absurd k, λ k. k.1)
  found_both f (both h) = f _ _ _ h

  runs_from : (R P Q : Ending) → Agree R P Q → (w : List Event) (d : ℕ) (r p q : Configuration) → Paired s u r p q → Run (step (joined s u)) R d r w ↔ (Run (step s) P d p w × Run (step u) Q d q w)
  runs_from R P Q f [] d r p q h = f d r p q h
  runs_from R P Q f (e ∷ w) d r p q h =
      let k = found_both (λ r' p' q' g. runs_from R P Q f w e.date r' p' q' g) (meets e.action (elapse_paired s u (e.date - d) h)) in
      (λ x. let y = k.0 x.1 in ((x.0, y.0), (x.0, y.1)), λ x. (x.0.0, k.1 (x.0.1, x.1.1)))

  runs_agree : (R P Q : Ending) → Agree R P Q → (d : ℕ) (w : List Event) → Run (step (joined s u)) R d (origin (automaton (joined s u) d)) w ↔ (Run (step s) P d (origin (automaton s d)) w × Run (step u) Q d (origin (automaton u d)) w)
  runs_agree R P Q f d w = runs_from R P Q f w d (origin (automaton (joined s u) d)) (origin (automaton s d)) (origin (automaton u d)) (origin_paired d)

  -- ---- What each sheet ends with

  first_location : {r p q : Configuration} → Paired s u r p q → first_of (locations u) r.location ≡ p.location
  first_location {r} {p} {q} h = ap (first_of (locations u)) h.place ∙ pair_first (locations u) p.location q.location h.second_fits

  second_location : {r p q : Configuration} → Paired s u r p q → second_of (locations u) r.location ≡ q.location
  second_location {r} {p} {q} h = ap (second_of (locations u)) h.place ∙ pair_second (locations u) p.location q.location h.second_fits

  ends_agree : (P Q : ℕ → ℕ → ℕ → Type 0) → Agree (λ e r. P e (first_of (locations u) r.location) r.x × Q e (second_of (locations u) r.location) r.y) (λ e p. P e p.location p.x) (λ e q. Q e q.location q.x)
  ends_agree P Q e r p q h = rw (first_location h, second_location h, h.first_reading, h.second_reading) (λ x. x, λ x. x)

  accepting_agree : Agree (λ e r. T (accepting (joined s u) r.location)) (λ e p. T (accepting s p.location)) (λ e q. T (accepting u q.location))
  accepting_agree e r p q h =
      rw (ap (accepting (joined s u)) h.place ∙ b.accepts p.location q.location h.first_fits h.second_fits)
      (T_and (accepting s p.location) (accepting u q.location))

  -- The joined sheet accepts what both accept.
  accepts_both : (d : ℕ) (w : List Event) → Accepts (automaton (joined s u) d) w ↔ (Accepts (automaton s d) w × Accepts (automaton u d) w)
  unfolding Accepts
  accepts_both d w = runs_agree (λ e r. T (accepting (joined s u) r.location)) (λ e p. T (accepting s p.location)) (λ e q. T (accepting u q.location)) accepting_agree d w

-- A timing is one for every sheet that is loaded at the same date.
timing_other : (s u : Bytes) (d : ℕ) (w : List Event) (t : ℕ) (cs ds : List ℕ) → Timing (automaton s d) w t cs ds → Timing (automaton u d) w t cs ds
timing_other s u d w t cs ds h = record { each = h.each; from_t = h.from_t; from_last = h.from_last }

-- Its runs, what it accepts, and its corrections are those of both sheets.
pub runs_both : {s u : Bytes} → Joinable s u → RunsBoth s u
runs_both {s} {u} j = let b = reads_both s u in record {
  runs = λ d P Q w. runs_agree j b (λ e r. P e (first_of (locations u) r.location) r.x × Q e (second_of (locations u) r.location) r.y) (λ e p. P e p.location p.x) (λ e q. Q e q.location q.x) (ends_agree j b P Q) d w;
  accepts = accepts_both j b;
  corrections = λ d w t cs ds. (
    λ h. let k = (accepts_both j b d (w ++ stamp cs ds)).0 h.accepts in
        (record { timing = timing_other (joined s u) s d w t cs ds h.timing; accepts = k.0 }, record { timing = timing_other (joined s u) u d w t cs ds h.timing; accepts = k.1 }),
    λ h. record { timing = timing_other s (joined s u) d w t cs ds h.0.timing; accepts = (accepts_both j b d (w ++ stamp cs ds)).1 (h.0.accepts, h.1.accepts) },
  );
}
