-- Timed words, runs and corrections d ticks later.
-- Assumes nothing.
use mathlib.Core.Path.{◌≡◌, refl, ap, sym, ◌∙◌}
use mathlib.Core.List.{List, [], ◌∷◌, ◌++◌, append_assoc, map, map-append, map-map}
use mathlib.Core.Logic.{◌⊎◌, inl, inr, ◌↔◌}
use Prim.Native.Nat.{ℕ, ◌+◌, ◌-◌, ◌<◌}
use native.Mathlib.Omega.{arith}
use lib.ListN.{length, length-map}
use Rattle.enforcement.specs.Automaton.{Automaton, actions}
use Rattle.enforcement.specs.TimedWord.{Configuration, Event, elapse, Run, step, origin, Accepting, Accepts, Monotone, last_of, dates_of, last_date, stamp, Timing, Correction, NotAfter, Best, Below, Known, Extensible, OneIfNone, Continues}
use Rattle.enforcement.specs.Demands.{Reaches}
use Rattle.enforcement.specs.Shift.{shift_automaton}
use Rattle.enforcement.proofs.Saturation.{Steps, Ending, configuration_path}
use Rattle.enforcement.proofs.Runs.{NonEmpty, found_map, run_map, run_both, run_show, run_monotone, monotone_from}

abbrev pub shift_dates : ℕ → List ℕ → List ℕ
shift_dates d ds = map (λ (t : ℕ). t + d) ds

abbrev pub shift_event : ℕ → Event → Event
shift_event d e = record { action = e.action; date = e.date + d }

abbrev pub shift_word : ℕ → List Event → List Event
shift_word d w = map (shift_event d) w

-- The values of a function.
data Image {A B : Type 0} (f : A → B) : B → Type 0 where
  image : (x : A) → Image f (f x)

image_cons : {A B : Type 0} (f : A → B) (x : A) {y : B} {ys : List B} → f x ≡ y → Image (map f) ys → Image (map f) (y ∷ ys)
image_cons f x e (image xs) = rw (sym e) (image (x ∷ xs))

module _ (d : ℕ) where
  -- ---- Dates

  monotone_shifted : (x : ℕ) (ds : List ℕ) → Monotone x ds ↔ Monotone (x + d) (shift_dates d ds)
  monotone_shifted x [] = (λ h. tt, λ h. tt)
  monotone_shifted x (e ∷ ds) = (λ h. (omega arith, (monotone_shifted e ds).0 h.1), λ h. (omega arith, (monotone_shifted e ds).1 h.1))

  -- Dates from x + d on are some dates d ticks later.
  dates_later : (x : ℕ) (es : List ℕ) → Monotone (x + d) es → Image (shift_dates d) es
  dates_later x [] h = image []
  dates_later x (e ∷ es) h = image_cons (λ (t : ℕ). t + d) (e - d) (omega arith) (dates_later x es (monotone_from (x + d) e es h.0 h.1))

  order_shifted : (ds es : List ℕ) → NotAfter ds es → NotAfter (shift_dates d ds) (shift_dates d es)
  order_shifted [] es h = tt
  order_shifted (x ∷ ds) [] h = h
  order_shifted (x ∷ ds) (e ∷ es) (inl h) = inl (omega arith)
  order_shifted (x ∷ ds) (e ∷ es) (inr h) = inr (omega arith, order_shifted ds es h.1)

  last_shifted : (x : ℕ) (ds : List ℕ) → last_of (x + d) (shift_dates d ds) ≡ last_of x ds + d
  last_shifted x [] = refl
  last_shifted x (e ∷ ds) = last_shifted e ds

  -- The last of at least one date.
  pub last_later : (cs ds : List ℕ) → NonEmpty cs → length ds ≡ length cs → last_of 0 (shift_dates d ds) ≡ last_of 0 ds + d
  last_later [] ds i h = absurd i
  last_later (c ∷ cs) [] i h = absurd (omega arith)
  last_later (c ∷ cs) (e ∷ ds) i h = last_shifted e ds

  -- ---- Timed words

  dates_shifted : (w : List Event) → dates_of (shift_word d w) ≡ shift_dates d (dates_of w)
  dates_shifted w = simp map-map

  -- Events from x + d on are some events d ticks later.
  word_later : (x : ℕ) (v : List Event) → Monotone (x + d) (dates_of v) → Image (shift_word d) v
  word_later x [] h = image []
  word_later x (e ∷ v) h = image_cons (shift_event d) (record { action = e.action; date = e.date - d }) (λ i. record { action = e.action; date = later i }) (word_later x v (monotone_from (x + d) e.date (dates_of v) h.0 h.1))
    where
      later : e.date - d + d ≡ e.date
      later = omega arith

  stamp_shifted : (cs ds : List ℕ) → shift_word d (stamp cs ds) ≡ stamp cs (shift_dates d ds)
  unfolding stamp
  stamp_shifted [] ds = refl
  stamp_shifted (c ∷ cs) [] = refl
  stamp_shifted (c ∷ cs) (e ∷ ds) = ap (λ (w : List Event). record { action = c; date = e + d } ∷ w) (stamp_shifted cs ds)

  below_shifted : (n : ℕ) (w : List Event) → Below n w ↔ Below n (shift_word d w)
  below_shifted n [] = (λ h. h, λ h. h)
  below_shifted n (e ∷ w) = (λ h. (h.0, (below_shifted n w).0 h.1), λ h. (h.0, (below_shifted n w).1 h.1))

  one_if_none_shifted : (cs : List ℕ) (w : List Event) → OneIfNone cs w ↔ OneIfNone cs (shift_word d w)
  one_if_none_shifted [] [] = (λ h. h, λ h. h)
  one_if_none_shifted [] (e ∷ w) = (λ h. h, λ h. h)
  one_if_none_shifted (c ∷ cs) w = (λ h. h, λ h. h)

  -- ---- Runs

  elapse_shifted : (p : Configuration) (x e : ℕ) → elapse (e + d - (x + d)) p ≡ elapse (e - x) p
  elapse_shifted p x e = configuration_path (omega arith) (omega arith)

  -- A run takes no notice of when it starts, but for the date at its end.
  run_shifted : (st : Steps) (P : Ending) (w : List Event) (x : ℕ) (p : Configuration) → Run st (λ e q. P (e + d) q) x p w ↔ Run st P (x + d) p (shift_word d w)
  run_shifted st P [] x p = (λ h. h, λ h. h)
  run_shifted st P (e ∷ w) x p = (
    λ h. (omega arith, rw (elapse_shifted p x e.date) (found_map (st e.action (elapse (e.date - x) p)) (λ q k. (run_shifted st P w e.date q).0 k) h.1)),
    λ h. (omega arith, found_map (st e.action (elapse (e.date - x) p)) (λ q k. (run_shifted st P w e.date q).1 k) (rw (elapse_shifted p x e.date) at h.1)),
  )

-- A timed word reaches one date and one configuration.
pub reaches_same : (a : Automaton) (w : List Event) (last last' : ℕ) (q q' : Configuration) → Reaches a w last q → Reaches a w last' q' → (last ≡ last') × (q ≡ q')
reaches_same a w last last' q q' r r' =
    run_show (step a.bytes) (λ e z b. (sym b.0.0 ∙ b.1.0, sym b.0.1 ∙ b.1.1)) w a.loaded (origin a)
    (run_both (step a.bytes) (λ e z. (e ≡ last) × (z ≡ q)) (λ e z. (e ≡ last') × (z ≡ q')) w a.loaded (origin a) r r')

-- ---- Corrections

module _ (d : ℕ) (a : Automaton) where
  accepts_shifted : (w : List Event) → Accepts a w ↔ Accepts (shift_automaton d a) (shift_word d w)
  unfolding Accepts
  accepts_shifted w = run_shifted d (step a.bytes) (Accepting a) w a.loaded (origin a)

  pub reaches_shifted : (w : List Event) (last : ℕ) (q : Configuration) → Reaches a w last q → Reaches (shift_automaton d a) (shift_word d w) (last + d) q
  reaches_shifted w last q r =
      (run_shifted d (step a.bytes) (λ e z. (e ≡ last + d) × (z ≡ q)) w a.loaded (origin a)).0
      (run_map (step a.bytes) (λ e z b. (ap (λ (n : ℕ). n + d) b.0, b.1)) w a.loaded (origin a) r)

  -- The end of an accepted timed word is some events d ticks later, since its dates are not below the loading date.
  further_later : (w v : List Event) → Accepts (shift_automaton d a) (w ++ v) → Image (shift_word d) v
  unfolding Accepts
  further_later w v h = word_later d a.loaded v (monotone_end w v (a.loaded + d) (run_monotone (step a.bytes) (Accepting a) (w ++ v) (a.loaded + d) (origin a) h))
    where
      monotone_end : (u z : List Event) (x : ℕ) → Monotone x (dates_of (u ++ z)) → Monotone x (dates_of z)
      monotone_end [] z x h = h
      monotone_end (e ∷ u) z x h = monotone_end u z x (monotone_from x e.date (dates_of (u ++ z)) h.0 h.1)

  last_date_shifted : (w : List Event) → last_date (shift_automaton d a) (shift_word d w) ≡ last_date a w + d
  last_date_shifted w = ap (last_of (a.loaded + d)) (dates_shifted d w) ∙ last_shifted d a.loaded (dates_of w)

  module _ (w : List Event) (t : ℕ) (cs : List ℕ) where
    timing_shifted : (ds : List ℕ) → Timing a w t cs ds ↔ Timing (shift_automaton d a) (shift_word d w) (t + d) cs (shift_dates d ds)
    timing_shifted ds = (
      λ h. record { each = length-map ds _ ∙ h.each; from_t = (monotone_shifted d t ds).0 h.from_t; from_last = rw last_date_shifted ((monotone_shifted d (last_date a w) ds).0 h.from_last) },
      λ h. record { each = sym (length-map ds _) ∙ h.each; from_t = (monotone_shifted d t ds).1 h.from_t; from_last = (monotone_shifted d (last_date a w) ds).1 (rw last_date_shifted at h.from_last) },
    )

    pub correction_shifted : (ds : List ℕ) → Correction a w t cs ds ↔ Correction (shift_automaton d a) (shift_word d w) (t + d) cs (shift_dates d ds)
    correction_shifted ds = (
      λ h. record { timing = (timing_shifted ds).0 h.timing; accepts = rw (← stamp_shifted d cs ds, ← map-append) ((accepts_shifted (w ++ stamp cs ds)).0 h.accepts) },
      λ h. record { timing = (timing_shifted ds).1 h.timing; accepts = (accepts_shifted (w ++ stamp cs ds)).1 (rw (← stamp_shifted d cs ds, ← map-append) at h.accepts) },
    )

    -- Every correction d ticks later comes from one.
    pub every_correction : (P : List ℕ → Type 0) → ((ds : List ℕ) → Correction a w t cs ds → P (shift_dates d ds)) → (es : List ℕ) → Correction (shift_automaton d a) (shift_word d w) (t + d) cs es → P es
    every_correction P f es h = go (dates_later d t es h.timing.from_t) h
      where
        go : {fs : List ℕ} → Image (shift_dates d) fs → Correction (shift_automaton d a) (shift_word d w) (t + d) cs fs → P fs
        go (image ds) k = f ds ((correction_shifted ds).1 k)

    -- The best correction of at least one action.
    pub best_shifted : (ds : List ℕ) → NonEmpty cs → Best a w t cs ds → Best (shift_automaton d a) (shift_word d w) (t + d) cs (shift_dates d ds)
    best_shifted ds i b = record { correction = (correction_shifted ds).0 b.correction; best = every_correction (NoBetter (shift_dates d ds)) against }
      where
        NoBetter : List ℕ → List ℕ → Type 0
        NoBetter es fs = (last_of 0 es < last_of 0 fs) ⊎ ((last_of 0 es ≡ last_of 0 fs) × NotAfter es fs)

        last : (es : List ℕ) → Correction a w t cs es → last_of 0 (shift_dates d es) ≡ last_of 0 es + d
        last es k = last_later d cs es i k.timing.each

        against : (es : List ℕ) → Correction a w t cs es → NoBetter (shift_dates d ds) (shift_dates d es)
        against es k = elim (b.best es k) [
          | inl x ↦ inl (omega (arith, last ds b.correction, last es k))
          | inr x ↦ inr (last ds b.correction ∙ ap (λ (n : ℕ). n + d) x.0 ∙ sym (last es k), order_shifted d ds es x.1)
        ]

    continued_shifted : (ds : List ℕ) (v : List Event) → Accepts a (w ++ (stamp cs ds ++ v)) ↔ Accepts (shift_automaton d a) (shift_word d w ++ (stamp cs (shift_dates d ds) ++ shift_word d v))
    continued_shifted ds v = rw (← stamp_shifted d cs ds, ← map-append (shift_event d) (stamp cs ds) v, ← map-append (shift_event d) w (stamp cs ds ++ v)) (accepts_shifted (w ++ (stamp cs ds ++ v)))

    -- Every timing and further events d ticks later come from some.
    every_continuation : (P : List ℕ → List Event → Type 0) → ((ds : List ℕ) (v : List Event) → Timing a w t cs ds → Known a v → Accepts a (w ++ (stamp cs ds ++ v)) → P (shift_dates d ds) (shift_word d v))
        → (es : List ℕ) (u : List Event) → Timing (shift_automaton d a) (shift_word d w) (t + d) cs es → Known (shift_automaton d a) u → Accepts (shift_automaton d a) (shift_word d w ++ (stamp cs es ++ u)) → P es u
    every_continuation P f es u h k x = go (dates_later d t es h.from_t) (further_later (shift_word d w ++ stamp cs es) u (rw append_assoc x)) h k x
      where
        go : {fs : List ℕ} {v : List Event} → Image (shift_dates d) fs → Image (shift_word d) v → Timing (shift_automaton d a) (shift_word d w) (t + d) cs fs → Known (shift_automaton d a) v → Accepts (shift_automaton d a) (shift_word d w ++ (stamp cs fs ++ v)) → P fs v
        go (image ds) (image v) h k x = f ds v ((timing_shifted ds).1 h) ((below_shifted d (actions a.bytes) v).1 k) ((continued_shifted ds v).1 x)

    pub extensible_shifted : Extensible a w t cs ↔ Extensible (shift_automaton d a) (shift_word d w) (t + d) cs
    extensible_shifted = (
      λ o. record {
        dates = shift_dates d o.dates;
        timing = (timing_shifted o.dates).0 o.timing;
        further = shift_word d o.further;
        known = (below_shifted d (actions a.bytes) o.further).0 o.known;
        accepts = (continued_shifted o.dates o.further).0 o.accepts;
      },
      λ o. every_continuation (λ es u. Extensible a w t cs) (λ ds v h k x. record { dates = ds; timing = h; further = v; known = k; accepts = x }) o.dates o.further o.timing o.known o.accepts,
    )

    from_shifted : (v : List Event) → Monotone t (dates_of v) ↔ Monotone (t + d) (dates_of (shift_word d v))
    from_shifted v = rw (dates_shifted d v) (monotone_shifted d t (dates_of v))

    pub continues_shifted : Continues a w t cs ↔ Continues (shift_automaton d a) (shift_word d w) (t + d) cs
    continues_shifted = (
      λ o. record {
        dates = shift_dates d o.dates;
        timing = (timing_shifted o.dates).0 o.timing;
        further = shift_word d o.further;
        known = (below_shifted d (actions a.bytes) o.further).0 o.known;
        from_t = (from_shifted o.further).0 o.from_t;
        some_more = (one_if_none_shifted d cs o.further).0 o.some_more;
        accepts = (continued_shifted o.dates o.further).0 o.accepts;
      },
      λ o. every_continuation (λ es u. Monotone (t + d) (dates_of u) → OneIfNone cs u → Continues a w t cs)
          (λ ds v h k x f m. record { dates = ds; timing = h; further = v; known = k; from_t = (from_shifted v).1 f; some_more = (one_if_none_shifted d cs v).1 m; accepts = x })
          o.dates o.further o.timing o.known o.accepts o.from_t o.some_more,
    )
