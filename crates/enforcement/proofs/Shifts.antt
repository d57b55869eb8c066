-- A sheet that is loaded later answers later calls alike.
-- Assumes nothing.
use mathlib.Core.Path.{◌≡◌, refl, ap, sym, ◌∙◌, subst}
use mathlib.Core.Bool.{Bool, true, false}
use mathlib.Core.List.{List, ◌∷◌, map}
use mathlib.Core.Logic.{◌↔◌}
use Prim.Native.Nat.{ℕ, ◌+◌, ◌≤◌}
use native.Mathlib.Omega.{arith}
use Rattle.enforcement.specs.Limits.{max_date}
use Rattle.enforcement.specs.Automaton.{Automaton, Bytes, automaton}
use Rattle.enforcement.specs.History.{Slot, word_of, History, fresh, schedule, Call, offer, collect, lamp, Outcome, played, nothing, Answers, late_collect, past_collect, plays, too_early, empty, is_dark, is_lit_lamp, HistoryOf}
use Rattle.enforcement.specs.Model.{saturated, has_one_clock}
use Rattle.enforcement.specs.Monitor.{Monitor}
use Rattle.enforcement.specs.Demands.{StandsFor}
use Rattle.enforcement.specs.Shift.{shift_automaton, shift_call, shift_outcome, shift_request, shift_slot, shift_history, shift_monitor, InTime, Shiftable, AllShiftable, Alike}
use Rattle.enforcement.proofs.Uniqueness.{one_answer}
use Rattle.enforcement.proofs.Shifting.{reaches_same, reaches_shifted}
use Rattle.enforcement.proofs.Offers.{word_shifted, schedule_shifted, dark_shifted, offer_shifted, offer_shiftable}

-- A sheet that is loaded at e, and the same d ticks later.
pub automaton_shifted : (d : ℕ) (s : Bytes) (e : ℕ) → shift_automaton d (automaton s e) ≡ automaton s (e + d)
automaton_shifted d s e = refl

pub fresh_shifted : (d : ℕ) (a : Automaton) → shift_history d (fresh a) ≡ fresh (shift_automaton d a)
fresh_shifted d a = refl

module _ (d : ℕ) (a : Automaton) where
  -- ---- Collects

  played_early : {g g' : History} {t c e n i : ℕ} → Answers (shift_automaton d a) g (collect t) (played c e n i) g' → t ≤ max_date
  played_early (plays x z u l) = x

  nothing_early : {g g' : History} {t : ℕ} → Answers (shift_automaton d a) g (collect t) nothing g' → t ≤ max_date
  nothing_early (too_early x z u l) = x
  nothing_early (empty x z u) = x

  module _ (h : History) (t : ℕ) where
    next_shifted : {ss : List Slot} → schedule h ≡ ss → schedule (shift_history d h) ≡ map (shift_slot d) ss
    next_shifted z = schedule_shifted d h ∙ ap (map (shift_slot d)) z

    collect_shifted : {h' : History} {o : Outcome} → Answers a h (collect t) o h' → InTime d t → Answers (shift_automaton d a) (shift_history d h) (collect (t + d)) (shift_outcome d o) (shift_history d h')
    collect_shifted (late_collect x) s = late_collect {t = t + d} (omega arith)
    collect_shifted (past_collect x y) s = past_collect (s x) (omega arith)
    collect_shifted (plays x y z l) s = plays (s x) (omega arith) (next_shifted z) (omega arith)
    collect_shifted (too_early x y z l) s = too_early (s x) (omega arith) (next_shifted z) (omega arith)
    collect_shifted (empty x y z) s = empty (s x) (omega arith) (next_shifted z)

    collect_shiftable : {h' g : History} {o : Outcome} → Answers a h (collect t) o h' → Answers (shift_automaton d a) (shift_history d h) (collect (t + d)) (shift_outcome d o) g → InTime d t
    collect_shiftable (late_collect x) y e = absurd (omega arith)
    collect_shiftable (past_collect x z) (past_collect x' z') e = x'
    collect_shiftable (plays x z u l) y e = played_early y
    collect_shiftable (too_early x z u l) y e = nothing_early y
    collect_shiftable (empty x z u) y e = nothing_early y

  -- ---- Any call

  pub answers_shifted : {h h' : History} {k : Call} {o : Outcome} → Answers a h k o h' → Shiftable d a h k → Answers (shift_automaton d a) (shift_history d h) (shift_call d k) (shift_outcome d o) (shift_history d h')
  answers_shifted {h} {k = offer c t} x s = offer_shifted d a h c t x s
  answers_shifted {h} {k = collect t} x s = collect_shifted h t x s
  answers_shifted {h} {k = lamp} (is_dark x) s = is_dark ((dark_shifted d a h).0 x)
  answers_shifted {h} {k = lamp} (is_lit_lamp x) s = is_lit_lamp (λ y. x ((dark_shifted d a h).1 y))

  pub answers_shiftable : {h h' g : History} {k : Call} {o : Outcome} → Answers a h k o h' → Answers (shift_automaton d a) (shift_history d h) (shift_call d k) (shift_outcome d o) g → Shiftable d a h k
  answers_shiftable {h} {k = offer c t} x y = offer_shiftable d a h c t x y
  answers_shiftable {h} {k = collect t} x y = collect_shiftable h t x y
  answers_shiftable {h} {k = lamp} x y = tt

  -- ---- Lists of calls

  first_shiftable : {h h' : History} {k : Call} {ks : List Call} {o : Outcome} → Answers a h k o h' → AllShiftable d a h (k ∷ ks) → Shiftable d a h k × AllShiftable d a h' ks
  first_shiftable {h} {k = k} x (AllShiftable.call s y r) = (s, rw (one_answer a h k x y).1 r)

  first_call : {g g'' : History} {j : Call} {js : List Call} {p : Outcome} {ps : List Outcome} → HistoryOf (shift_automaton d a) g (j ∷ js) (p ∷ ps) g'' → (g' : History) × Answers (shift_automaton d a) g j p g' × HistoryOf (shift_automaton d a) g' js ps g''
  first_call (HistoryOf.call {h' = g'} x r) = (g', x, r)

  alike_later : {h h' : History} {ks : List Call} {os : List Outcome} → HistoryOf a h ks os h' → AllShiftable d a h ks → Alike d a h ks os h'
  alike_later HistoryOf.end s = HistoryOf.end
  alike_later (HistoryOf.call x r) s = let f = first_shiftable x s in HistoryOf.call (answers_shifted x f.0) (alike_later r f.1)

  -- Where the outcomes are alike, whatever the history that is left.
  pub outcomes_shiftable : {h h' g : History} {ks : List Call} {os : List Outcome} → HistoryOf a h ks os h' → HistoryOf (shift_automaton d a) (shift_history d h) (map (shift_call d) ks) (map (shift_outcome d) os) g → AllShiftable d a h ks
  outcomes_shiftable HistoryOf.end q = AllShiftable.end
  outcomes_shiftable {h} {g = g} (HistoryOf.call {h' = h'} {k = k} {ks = ks} {os = os} x r) q =
      let f = first_call q in
      let s : Shiftable d a h k = answers_shiftable x f.1 in
      let e : f.0 ≡ shift_history d h' = (one_answer (shift_automaton d a) (shift_history d h) (shift_call d k) f.1 (answers_shifted x s)).1 in
      AllShiftable.call s x (outcomes_shiftable r (subst (λ (z : History). HistoryOf (shift_automaton d a) z (map (shift_call d) ks) (map (shift_outcome d) os) g) e f.2))

  pub alike : {h h' : History} {ks : List Call} {os : List Outcome} → HistoryOf a h ks os h' → AllShiftable d a h ks ↔ Alike d a h ks os h'
  alike r = (alike_later r, outcomes_shiftable r)

-- ---- Monitors

false_same : (x y : Bool) → (x ≡ false → y ≡ false) → (y ≡ false → x ≡ false) → x ≡ y
false_same false y f g = sym (f refl)
false_same true false f g = g refl
false_same true true f g = refl

pub stands_shifted : (d : ℕ) (a : Automaton) (b c : Monitor) (h : History) → StandsFor a b h → StandsFor (shift_automaton d a) c (shift_history d h) → c ≡ shift_monitor d b
stands_shifted d a b c h s u = λ i. record {
  date = date i;
  pending = pending i;
  schedule = waiting i;
  configuration = configuration i;
  last = ends.0 i;
  numbered = numbered i;
  lit = lamp_same i;
}
  where
    date : c.date ≡ b.date + d
    date = u.date_is ∙ ap (λ (n : ℕ). n + d) (sym s.date_is)

    pending : c.pending ≡ map (shift_request d) b.pending
    pending = u.pending_is ∙ ap (map (shift_request d)) (sym s.pending_is)

    waiting : c.schedule ≡ map (shift_slot d) b.schedule
    waiting = u.schedule_is ∙ schedule_shifted d h ∙ ap (map (shift_slot d)) (sym s.schedule_is)

    ends : (c.last ≡ b.last + d) × (u.exact ≡ s.exact)
    ends = reaches_same (shift_automaton d a) (word_of (shift_history d h).scheduled) c.last (b.last + d) u.exact s.exact u.reaches (rw word_shifted (reaches_shifted d a (word_of h.scheduled) b.last s.exact s.reaches))

    configuration : c.configuration ≡ b.configuration
    configuration = u.configuration_is ∙ ap (saturated (has_one_clock a.bytes)) ends.1 ∙ sym s.configuration_is

    numbered : c.numbered ≡ b.numbered
    numbered = u.numbered_is ∙ sym s.numbered_is

    lamp_same : c.lit ≡ b.lit
    lamp_same = false_same c.lit b.lit (λ e. s.lamp_is.1 ((dark_shifted d a h).1 (u.lamp_is.0 e))) (λ e. u.lamp_is.1 ((dark_shifted d a h).0 (s.lamp_is.0 e)))
