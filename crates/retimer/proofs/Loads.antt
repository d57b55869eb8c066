-- Laws of loading: what the check's answer says of the sheet, and that the box made of a sheet is a fresh one.
-- Assumes nothing.
use mathlib.Core.Path.{◌≡◌, refl, ap, sym, ◌∙◌, subst⁻¹}
use mathlib.Core.Bool.{Bool, true, false, cond}
use mathlib.Core.List.{List, [], ◌∷◌}
use mathlib.Core.Logic.{◌⊎◌, inl, inr}
use Prim.Native.Nat.{ℕ, ◌-◌, ◌≤◌, min, max}
use native.Mathlib.Omega.{arith}
use lib.ListN.{length, take}
use borrow.Author.Tests.{eq-eqb, ne_eqb}
use Rattle.std.specs.Prelude.{Result, Ok, Err, is_err}
use Rattle.enforcement.specs.Limits.{max_date, max_size}
use Rattle.enforcement.specs.Automaton.{Bytes, automaton, clocks, initial}
use Rattle.enforcement.specs.Loading.{Loads, WellFormed, check}
use Rattle.enforcement.specs.Reason as model-reason
use Rattle.enforcement.specs.Loading as loading
use Rattle.enforcement.specs.History.{fresh, end}
use Rattle.enforcement.specs.Model.{top, has_one_clock, compile}
use Rattle.enforcement.specs.Monitor.{is_lit, lamp_lit, with_lamp, fresh_monitor}
use Rattle.enforcement.specs.Monitor as model
use Rattle.enforcement.specs.Demands.{StandsFor}
use Rattle.enforcement.proofs.Loading.{size_fits, initial_fits, loads_check, loads_is, loads_formed, check_right, bounded}
use Rattle.enforcement.proofs.Model as model-laws
use Rattle.retimer.specs.declared.limits.Monitor.{Monitor}
use Rattle.retimer.specs.declared.reason.Reason.{Reason}
use Rattle.retimer.specs.declared.sheet.Counts.{Counts}
use Rattle.retimer.specs.Reasons.{reason_of}
use Rattle.retimer.specs.Checked.{figures_of, checked_of}
use Rattle.retimer.specs.Readings.{located, Standing}
use Rattle.retimer.specs.Optimum.{LampAsked}
use Rattle.retimer.specs.Live.{LiveTable}
use Rattle.retimer.specs.View.{view, view_of}
use Rattle.retimer.specs.declared.monitor.Loaded.{Loaded}
use Rattle.retimer.specs.Calls.{initial_state, FreshRight, LoadRight}

-- ---- The check's answer

pub accepted_loads : (s : Bytes) (d : ℕ) (v : Result Counts Reason) (k : Counts) → v ≡ Ok k → checked_of v ≡ check s d → Loads s d
accepted_loads s d v k e f = go (check_right s d).one_of
  where
    g : loading.accepted (figures_of k) ≡ check s d
    g = ap checked_of (sym e) ∙ f

    go : (check s d ≡ loading.accepted (loading.counts_of s)) ⊎ ((r : model-reason.Reason) × (check s d ≡ loading.refused r)) → Loads s d
    go (inl a) = (check_right s d).accepts.0 a
    go (inr a) = let z : ◌≡◌ {A = ℕ} 0 1 = cc (g, a.1) in absurd (omega arith)

pub refused_loads : (s : Bytes) (d : ℕ) (v : Result Counts Reason) (r : Reason) → v ≡ Err r → checked_of v ≡ check s d → Loads s d → ⊥
refused_loads s d v r e f l =
    let a = loads_check s d l in
    let g : loading.refused (reason_of r) ≡ check s d = ap checked_of (sym e) ∙ f in
    let z : ◌≡◌ {A = ℕ} 0 1 = cc (g, a) in omega arith

-- The same of a load, by the test whether it refused.
pub refused_load : (s : Bytes) (d : ℕ) (r : Loaded) → is_err r.checked ≡ true → LoadRight s d r → Loads s d → ⊥
refused_load s d r e f = go r.checked e f.checked
  where
    go : (v : Result Counts Reason) → is_err v ≡ true → checked_of v ≡ check s d → Loads s d → ⊥
    go (Ok k) e f l = cc
    go (Err q) e f l = refused_loads s d (Err q) q refl f l

pub accepted_load : (s : Bytes) (d : ℕ) (r : Loaded) → is_err r.checked ≡ false → LoadRight s d r → Loads s d
accepted_load s d r e f = go r.checked e f.checked
  where
    go : (v : Result Counts Reason) → is_err v ≡ false → checked_of v ≡ check s d → Loads s d
    go (Ok k) e f = accepted_loads s d (Ok k) k refl f
    go (Err q) e f = absurd (cc)

pub accepted_box : (s : Bytes) (d : ℕ) (r : Loaded) → is_err r.checked ≡ false → LoadRight s d r → FreshRight s d r.monitor
accepted_box s d r e f = f.fresh (accepted_load s d r e f)

-- ---- A fresh box

-- The box of a sheet that is loaded at d: its bytes in front of b, its live table, no action pending or scheduled, at the initial location with a second clock that reads y, and the lamp.
abbrev pub made_of : Bytes → ℕ → Bytes → List ℕ → ℕ → Bool → Monitor
made_of s d b live y lit = record { bytes = b; size = length s; live = live; state = initial_state d (initial s) (0 ∷ y ∷ []) lit }

-- The second clock's reading, saturated where there is no second clock.
pub second_is : (s : Bytes) (y : ℕ) → ((clocks s ≡ 1) × (y ≡ top)) ⊎ ((clocks s ≡ 1 → ⊥) × (y ≡ 0)) → y ≡ cond (has_one_clock s) top 0
second_is s y (inl h) = rw (eq-eqb (clocks s) 1 h.0) h.1
second_is s y (inr h) = rw (ne_eqb (clocks s) 1 h.0) h.1

module _ (s : Bytes) (y : ℕ) (loads : WellFormed s) (second : y ≡ cond (has_one_clock s) top 0) where
  fresh_stands : Standing s (initial s) (0 ∷ y ∷ [])
  fresh_stands = record { in_sheet = initial_fits s loads; readings = record { two = refl; first = omega arith; second = go (has_one_clock s) y second }; one_clock = λ e. rw (eq-eqb (clocks s) 1 e) at second }
    where
      go : (x : Bool) (n : ℕ) → n ≡ cond x top 0 → n ≤ top
      go true n e = omega arith
      go false n e = omega arith

  -- What the lamp is given.
  pub fresh_asked : {live : List ℕ} → LiveTable s live → LampAsked s live (initial s) (0 ∷ y ∷ [])
  fresh_asked t = record { loads = loads; table = t; standing = fresh_stands }

module _ (s : Bytes) (d : ℕ) (b : Bytes) (live : List ℕ) (y : ℕ) (lit : Bool) (loads : Loads s d) (front : take (length s) b ≡ s) (second : y ≡ cond (has_one_clock s) top 0) where
  formed : WellFormed s
  formed = loads_formed s d loads

  early : d ≤ max_date
  early = ((loads_is s d).0 loads).1

  fresh_view : lit ≡ is_lit (compile s) (located (initial s) (0 ∷ y ∷ [])) [] → view_of (made_of s d b live y lit) ≡ fresh_monitor (automaton s d)
  unfolding view lamp_lit
  fresh_view none = ap (λ (x : Bool). view_at y x) none ∙ ap (λ (n : ℕ). view_at n (is_lit (compile s) (located (initial s) (0 ∷ n ∷ [])) [])) second ∙ go (has_one_clock s)
    where
      view_at : ℕ → Bool → model.Monitor
      view_at n x = record { date = d; pending = []; schedule = []; configuration = record { location = initial s; x = 0; y = n }; last = d; numbered = 0; lit = x }

      go : (one : Bool) → view_at (cond one top 0) (is_lit (compile s) (located (initial s) (0 ∷ cond one top 0 ∷ [])) []) ≡ with_lamp (compile s) (view_at (cond one top (min 0 top)) false)
      go true = let z : max d d - d ≡ 0 = omega arith in rw z
      go false = let z : max d d - d ≡ 0 = omega arith in rw z

  pub fresh_right : length b ≡ max_size → LiveTable s live → lit ≡ is_lit (compile s) (located (initial s) (0 ∷ y ∷ [])) [] → FreshRight s d (made_of s d b live y lit)
  fresh_right n t none =
      let v : view_of (made_of s d b live y lit) ≡ fresh_monitor (automaton (take (length s) b) d) = rw front (fresh_view none) in
      let w : StandsFor (automaton (take (length s) b) d) (view_of (made_of s d b live y lit)) (fresh (automaton (take (length s) b) d)) =
      subst⁻¹ (λ (x : model.Monitor). StandsFor (automaton (take (length s) b) d) x (fresh (automaton (take (length s) b) d))) v (model-laws.fresh_stands (automaton (take (length s) b) d) (bounded (take (length s) b) (rw front formed))) in
      record {
        is = v;
        stands = w;
        sheet = front;
        valid = record {
          sound = record {
            bytes_sized = n;
            size_fits = (size_fits s formed).1;
            state = record {
              loads = rw front formed;
              table = rw front t;
              pending_sized = refl;
              held_fits = omega arith;
              schedule_sized = refl;
              planned_fits = omega arith;
              standing = rw front (fresh_stands s y formed second);
              date_fits = early;
              last_fits = early;
              numbered_fits = omega arith;
            };
          };
          recorded = record { loaded = d; loaded_fits = early; past = []; outcomes = []; history = fresh (automaton (take (length s) b) d); recorded = end; stands = w };
        };
      }
