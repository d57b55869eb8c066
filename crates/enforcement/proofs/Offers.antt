-- A sheet that is loaded later answers a later offer alike, and its lamp is alike.
-- Assumes nothing.
use mathlib.Core.Path.{◌≡◌, refl, ap, ap₂, subst₂}
use mathlib.Core.List.{List, [], ◌∷◌, map, map-append, map-map}
use mathlib.Core.Logic.{◌↔◌}
use Prim.Native.Nat.{ℕ, zero, suc, ◌+◌, ◌≤◌, ◌<◌}
use native.Mathlib.Omega.{arith}
use lib.ListN.{length-map, drop}
use Rattle.enforcement.specs.Limits.{max_date}
use Rattle.enforcement.specs.Automaton.{Automaton}
use Rattle.enforcement.specs.TimedWord.{last_of}
use Rattle.enforcement.specs.History.{Request, Slot, actions_of, word_of, place, History, schedule, offer, Outcome, scheduled, numbered_next, joined, Passes, Corrects, Chosen, Uncorrectable, IsOpen, free_slots, after_schedule, Dark, Answers, unknown, late, past, no_number, too_late, no_place, full}
use Rattle.enforcement.specs.Shift.{shift_automaton, shift_outcome, shift_request, shift_slot, shift_history, InTime, Shiftable}
use Rattle.enforcement.proofs.Corrections.{best_least}
use Rattle.enforcement.proofs.Simulation.{joined_non_empty}
use Rattle.enforcement.proofs.Shifting.{shift_dates, shift_word, last_later, correction_shifted, every_correction, best_shifted, extensible_shifted, continues_shifted}

-- ---- Slots and requests

drop_map : {A B : Type 0} (f : A → B) (n : ℕ) (xs : List A) → drop n (map f xs) ≡ map f (drop n xs)
drop_map f zero xs = refl
drop_map f (suc n) [] = refl
drop_map f (suc n) (x ∷ xs) = drop_map f n xs

module _ (d : ℕ) where
  pub word_shifted : (ss : List Slot) → word_of (map (shift_slot d) ss) ≡ shift_word d (word_of ss)
  word_shifted ss = simp map-map

  actions_shifted : (rs : List Request) → actions_of (map (shift_request d) rs) ≡ actions_of rs
  actions_shifted rs = simp map-map

  place_shifted : (rs : List Request) (ds : List ℕ) → map (shift_slot d) (place rs ds) ≡ place (map (shift_request d) rs) (shift_dates d ds)
  unfolding place
  place_shifted [] ds = refl
  place_shifted (r ∷ rs) [] = refl
  place_shifted (r ∷ rs) (e ∷ ds) = ap (λ (ss : List Slot). record { request = shift_request d r; date = e + d } ∷ ss) (place_shifted rs ds)

  pub schedule_shifted : (h : History) → schedule (shift_history d h) ≡ map (shift_slot d) (schedule h)
  schedule_shifted h = drop_map (shift_slot d) h.played h.scheduled

  free_shifted : (h : History) → free_slots (shift_history d h) ≡ free_slots h
  free_shifted h = rw schedule_shifted (rw length-map)

  joined_shifted : (h : History) (c t : ℕ) → map (shift_request d) (joined h c t) ≡ joined (shift_history d h) c (t + d)
  joined_shifted h c t = rw map-append

-- ---- The lamp

module _ (d : ℕ) (a : Automaton) where
  pub dark_shifted : (h : History) → Dark a h ↔ Dark (shift_automaton d a) (shift_history d h)
  dark_shifted h = rw (word_shifted, actions_shifted) (continues_shifted d a (word_of h.scheduled) h.date (actions_of h.pending))

  -- ---- Offers

  module _ (h : History) (c t : ℕ) where
    corrects_shifted : (ds : List ℕ) → Corrects a h c t ds ↔ Corrects (shift_automaton d a) (shift_history d h) c (t + d) (shift_dates d ds)
    corrects_shifted ds = rw (word_shifted, ← joined_shifted, actions_shifted) (correction_shifted d a (word_of h.scheduled) t (actions_of (joined h c t)) ds)

    every_corrects : (P : List ℕ → Type 0) → ((ds : List ℕ) → Corrects a h c t ds → P (shift_dates d ds)) → (es : List ℕ) → Corrects (shift_automaton d a) (shift_history d h) c (t + d) es → P es
    every_corrects = rw (word_shifted, ← joined_shifted, actions_shifted) (every_correction d a (word_of h.scheduled) t (actions_of (joined h c t)))

    chosen_shifted : (ds : List ℕ) → Chosen a h c t ds → Chosen (shift_automaton d a) (shift_history d h) c (t + d) (shift_dates d ds)
    chosen_shifted ds b = rw (word_shifted, ← joined_shifted, actions_shifted) (best_shifted d a (word_of h.scheduled) t (actions_of (joined h c t)) ds (joined_non_empty h.pending (numbered_next h c t)) b)

    open_shifted : IsOpen a h c t ↔ IsOpen (shift_automaton d a) (shift_history d h) c (t + d)
    open_shifted = rw (word_shifted, ← joined_shifted, actions_shifted) (extensible_shifted d a (word_of h.scheduled) t (actions_of (joined h c t)))

    uncorrectable_shifted : Uncorrectable a h c t → Uncorrectable (shift_automaton d a) (shift_history d h) c (t + d)
    uncorrectable_shifted u = every_corrects (λ (es : List ℕ). ⊥) u

    last_corrects : (ds : List ℕ) → Corrects a h c t ds → last_of 0 (shift_dates d ds) ≡ last_of 0 ds + d
    last_corrects ds k = last_later d (actions_of (joined h c t)) ds (joined_non_empty h.pending (numbered_next h c t)) k.timing.each

    passes_shifted : InTime d t → Passes a h c t → Passes (shift_automaton d a) (shift_history d h) c (t + d)
    passes_shifted s p = record { known = p.known; early = s p.early; current = omega arith; countable = p.countable }

    after_schedule_shifted : (ds : List ℕ) → after_schedule (shift_history d h) c (t + d) (shift_dates d ds) ≡ shift_history d (after_schedule h c t ds)
    after_schedule_shifted ds = rw (map-append, place_shifted, joined_shifted)

    ends_shifted : {ds : List ℕ} → InTime d (last_of 0 ds) → Chosen a h c t ds → last_of 0 ds ≤ max_date → last_of 0 (shift_dates d ds) ≤ max_date
    ends_shifted {ds} s b l = omega (arith, last_corrects ds b.correction, s l)

    pub offer_shifted : {h' : History} {o : Outcome} → Answers a h (offer c t) o h' → Shiftable d a h (offer c t) → Answers (shift_automaton d a) (shift_history d h) (offer c (t + d)) (shift_outcome d o) (shift_history d h')
    offer_shifted (unknown x) s = unknown x
    offer_shifted (late x y) s = late {t = t + d} x (omega arith)
    offer_shifted (past x y z) s = past x (s.0 x y) (omega arith)
    offer_shifted (no_number x y z n) s = no_number x (s.0 x y) (omega arith) n
    offer_shifted (too_late {ds = ds} p k f) s =
        too_late (passes_shifted (s.0 p.known) p) ((corrects_shifted ds).0 k) (every_corrects (λ (es : List ℕ). max_date < last_of 0 es) (λ es x. omega (arith, last_corrects es x, f es x)))
    offer_shifted (no_place {ds = ds} p b l n) s =
        no_place (passes_shifted (s.0 p.known) p) (chosen_shifted ds b) (ends_shifted (s.1 ds p b) b l) (omega (arith, free_shifted d h, length-map ds (λ (x : ℕ). x + d)))
    offer_shifted (Answers.schedules {ds = ds} p b l n) s =
        subst₂ (Answers (shift_automaton d a) (shift_history d h) (offer c (t + d))) (ap₂ scheduled (length-map ds (λ (x : ℕ). x + d)) (last_corrects ds b.correction)) (after_schedule_shifted ds)
        (Answers.schedules (passes_shifted (s.0 p.known) p) (chosen_shifted ds b) (ends_shifted (s.1 ds p b) b l) (omega (arith, free_shifted d h, length-map ds (λ (x : ℕ). x + d))))
    offer_shifted (full p u o l) s = full (passes_shifted (s.0 p.known) p) (uncorrectable_shifted u) (open_shifted.0 o) (omega (arith, length-map h.pending (shift_request d)))
    offer_shifted (Answers.holds p u o l) s =
        rw joined_shifted (Answers.holds (passes_shifted (s.0 p.known) p) (uncorrectable_shifted u) (open_shifted.0 o) (omega (arith, length-map h.pending (shift_request d))))
    offer_shifted (Answers.drops p u n) s = Answers.drops (passes_shifted (s.0 p.known) p) (uncorrectable_shifted u) (λ o. n (open_shifted.1 o))

    -- Where a correction is taken d ticks later, the date and the end of the offer's correction are in time.
    taken_shiftable : {es : List ℕ} → Passes (shift_automaton d a) (shift_history d h) c (t + d) → Chosen (shift_automaton d a) (shift_history d h) c (t + d) es → last_of 0 es ≤ max_date → Shiftable d a h (offer c t)
    taken_shiftable {es} p b l = (λ k e. p.early, λ ds q f e. omega (arith, last_corrects ds f.correction, best_least (chosen_shifted ds f) es b.correction))

    scheduled_shiftable : {n l : ℕ} {g : History} → Answers (shift_automaton d a) (shift_history d h) (offer c (t + d)) (scheduled n l) g → Shiftable d a h (offer c t)
    scheduled_shiftable (Answers.schedules p b l n) = taken_shiftable p b l

    pub offer_shiftable : {h' g : History} {o : Outcome} → Answers a h (offer c t) o h' → Answers (shift_automaton d a) (shift_history d h) (offer c (t + d)) (shift_outcome d o) g → Shiftable d a h (offer c t)
    offer_shiftable (unknown x) y = (λ k. absurd (omega arith), λ ds p b. absurd (omega arith))
    offer_shiftable (late x l) y = (λ k e. absurd (omega arith), λ ds p b. absurd (omega arith))
    offer_shiftable (past x l z) (past x' l' z') = (λ k e. l', λ ds p b. absurd (omega arith))
    offer_shiftable (no_number x l z n) (no_number x' l' z' n') = (λ k e. l', λ ds p b. absurd (omega arith))
    offer_shiftable (too_late p k f) (too_late p' k' f') = (λ k e. p'.early, λ ds p b e. absurd (omega (arith, f ds b.correction)))
    offer_shiftable (no_place p b l n) (no_place p' b' l' n') = taken_shiftable p' b' l'
    offer_shiftable (Answers.schedules p b l n) y = scheduled_shiftable y
    offer_shiftable (full p u o l) (full p' u' o' l') = (λ k e. p'.early, λ ds q b. absurd (u ds b.correction))
    offer_shiftable (Answers.holds p u o l) (Answers.holds p' u' o' l') = (λ k e. p'.early, λ ds q b. absurd (u ds b.correction))
    offer_shiftable (Answers.drops p u n) (Answers.drops p' u' n') = (λ k e. p'.early, λ ds q b. absurd (u ds b.correction))
