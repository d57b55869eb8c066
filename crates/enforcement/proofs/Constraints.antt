-- The constraints on an enforcement mechanism hold of every history; what is played are the first events scheduled, in order, and dates never fall.
use mathlib.Core.Path.{◌≡◌, refl, ap, sym, ◌∙◌, subst⁻¹, subst₂}
use mathlib.Core.List.{List, [], ◌∷◌, ◌++◌, append_assoc, append-nil, nil≢cons, head-eq_of_cons-eq}
use mathlib.Core.Logic.{◌⊎◌, inl, inr}
use Prim.Native.Nat.{ℕ, zero, suc, ◌≤◌, ◌<◌}
use native.Mathlib.Omega.{arith}
use native.Mathlib.Nat.{le_refl}
use lib.Seq.{take-append-le}
use lib.ListN.{length, length-append, take, drop}
use Rattle.enforcement.specs.Limits.{max_numbered}
use Rattle.enforcement.specs.Automaton.{Automaton}
use Rattle.enforcement.specs.TimedWord.{Event, Accepts, Monotone, dates_of, stamp}
use Rattle.enforcement.specs.History.{History, Slot, actions_of, word_of, place, fresh, schedule, Call, offer, collect, lamp, Outcome, scheduled, held, dropped, played, nothing, lit, dark, refused, numbered_next, joined, Corrects, after_schedule, after_hold, after_drop, after_date, after_play, Answers, unknown, late, past, no_number, too_late, no_place, full, late_collect, past_collect, too_early, empty, is_dark, is_lit_lamp, HistoryOf, call}
use Rattle.enforcement.specs.Constraints.{Delayed, input_of, played_of, Enforcement}
use Rattle.enforcement.proofs.Runs.{monotone_from}
use Rattle.enforcement.proofs.Progress.{monotone_after}
use Rattle.enforcement.proofs.Slots.{drop_next, actions_append, word_append, word_place}

-- A list of one.
abbrev pub one : {A : Type 0} → A → List A
one x = x ∷ []

-- What a call does to a history: the input that it adds, what it plays, and the history after it.
pub data Effect (a : Automaton) (h : History) : List Event → List Slot → History → Type 0 where
  rests : Effect a h [] [] h
  passes : (t : ℕ) → h.date ≤ t → Effect a h [] [] (after_date h t)
  plays : (t : ℕ) (e : Slot) (rest : List Slot) → h.date ≤ t → schedule h ≡ e ∷ rest → Effect a h [] (one e) (after_play h t)
  drops : (c t : ℕ) → h.date ≤ t → h.numbered < max_numbered → Effect a h (one (record { action = c; date = t })) [] (after_drop h t)
  holds : (c t : ℕ) → h.date ≤ t → h.numbered < max_numbered → Effect a h (one (record { action = c; date = t })) [] (after_hold h c t)
  schedules : (c t : ℕ) (ds : List ℕ) → h.date ≤ t → h.numbered < max_numbered → Corrects a h c t ds → Effect a h (one (record { action = c; date = t })) [] (after_schedule h c t ds)

effect : (a : Automaton) (h h' : History) (k : Call) (o : Outcome) → Answers a h k o h' → Effect a h (input_of (one k) (one o)) (played_of (one o)) h'
effect a h h' k o (unknown x) = Effect.rests
effect a h h' k o (late x y) = Effect.rests
effect a h h' k o (past x y z) = Effect.rests
effect a h h' k o (no_number x y z u) = Effect.rests
effect a h h' k o (too_late p x y) = Effect.rests
effect a h h' k o (no_place p x y z) = Effect.rests
effect a h h' k o (Answers.schedules {c = c} {t = t} {ds = ds} p x y z) = Effect.schedules c t ds p.current p.countable x.correction
effect a h h' k o (full p x y z) = Effect.rests
effect a h h' k o (Answers.holds {c = c} {t = t} p x y z) = Effect.holds c t p.current p.countable
effect a h h' k o (Answers.drops {c = c} {t = t} p x y) = Effect.drops c t p.current p.countable
effect a h h' k o (late_collect x) = Effect.rests
effect a h h' k o (past_collect x y) = Effect.rests
effect a h h' k o (Answers.plays {t = t} {e = e} {rest = rest} x y z u) = Effect.plays t e rest y z
effect a h h' k o (too_early {t = t} x y z u) = Effect.passes t y
effect a h h' k o (empty {t = t} x y z) = Effect.passes t y
effect a h h' k o (is_dark x) = Effect.rests
effect a h h' k o (is_lit_lamp x) = Effect.rests

-- The input of the first call comes first, and so does what it plays.
input_cons : (k : Call) (o : Outcome) (ks : List Call) (os : List Outcome) → input_of (k ∷ ks) (o ∷ os) ≡ input_of (one k) (one o) ++ input_of ks os
input_cons (offer c t) (scheduled n l) ks os = refl
input_cons (offer c t) held ks os = refl
input_cons (offer c t) dropped ks os = refl
input_cons (offer c t) (played d e n i) ks os = refl
input_cons (offer c t) nothing ks os = refl
input_cons (offer c t) lit ks os = refl
input_cons (offer c t) dark ks os = refl
input_cons (offer c t) (refused r) ks os = refl
input_cons (collect t) o ks os = refl
input_cons lamp o ks os = refl

played_cons : (o : Outcome) (os : List Outcome) → played_of (o ∷ os) ≡ played_of (one o) ++ played_of os
played_cons (scheduled n l) os = refl
played_cons held os = refl
played_cons dropped os = refl
played_cons (played d e n i) os = refl
played_cons nothing os = refl
played_cons lit os = refl
played_cons dark os = refl
played_cons (refused r) os = refl

-- What every effect keeps of a history, its input and what was played holds after every list of calls.
module _ (a : Automaton) (P : History → List Event → List Slot → Type 0) (keeps : (h h' : History) (w i : List Event) (v p : List Slot) → Effect a h i p h' → P h w v → P h' (w ++ i) (v ++ p)) where
  pub kept : (h h' : History) (ks : List Call) (os : List Outcome) (w : List Event) (v : List Slot) → HistoryOf a h ks os h' → P h w v → P h' (w ++ input_of ks os) (v ++ played_of os)
  kept h h' ks os w v HistoryOf.end x = subst₂ (P h) (sym (append-nil w)) (sym (append-nil v)) x
  kept h h' ks os w v (call {h' = m} {k = k} {ks = rest} {o = o} {os = us} r q) x =
      let i : List Event = input_of (one k) (one o) in
      let p : List Slot = played_of (one o) in
      subst₂ (P h')
      (append_assoc w i (input_of rest us) ∙ ap (λ (u : List Event). w ++ u) (sym (input_cons k o rest us)))
      (append_assoc v p (played_of us) ∙ ap (λ (u : List Slot). v ++ u) (sym (played_cons o us)))
      (kept m h' rest us (w ++ i) (v ++ p) q (keeps h m w i v p (effect a h m k o r) x))

-- The physical constraint: later calls only append.
abbrev Extends : History → History → Type 0
Extends h h' = (v : List Slot) × (h'.scheduled ≡ h.scheduled ++ v)

extends_more : (a : Automaton) (f h h' : History) (w i : List Event) (u p : List Slot) → Effect a h i p h' → Extends f h → Extends f h'
extends_more a f h h' w i u p Effect.rests x = x
extends_more a f h h' w i u p (Effect.passes t l) x = x
extends_more a f h h' w i u p (Effect.plays t e rest l q) x = x
extends_more a f h h' w i u p (Effect.drops c t l n) x = x
extends_more a f h h' w i u p (Effect.holds c t l n) x = x
extends_more a f h h' w i u p (Effect.schedules c t ds l n k) x =
    let s : List Slot = place (joined h c t) ds in
    (x.0 ++ s, ap (λ (z : List Slot). z ++ s) x.1 ∙ append_assoc f.scheduled x.0 s)

pub appends : (a : Automaton) (h h' : History) (ks : List Call) (os : List Outcome) → HistoryOf a h ks os h' → (v : List Slot) × (h'.scheduled ≡ h.scheduled ++ v)
appends a h h' ks os r = kept a (λ (g : History) (w : List Event) (v : List Slot). Extends h g) (extends_more a h) h h' ks os [] [] r ([], sym (append-nil h.scheduled))

-- The word after an offer is scheduled.
word_joined : (h : History) (c t : ℕ) (ds : List ℕ) → word_of (h.scheduled ++ place (joined h c t) ds) ≡ word_of h.scheduled ++ stamp (actions_of (joined h c t)) ds
word_joined h c t ds = word_append h.scheduled (place (joined h c t) ds) ∙ ap (λ (v : List Event). word_of h.scheduled ++ v) (word_place (joined h c t) ds)

-- Soundness.
abbrev Sound : Automaton → History → Type 0
Sound a h = (h.scheduled ≡ []) ⊎ Accepts a (word_of h.scheduled)

stays_sound : (a : Automaton) (h h' : History) (w i : List Event) (v p : List Slot) → Effect a h i p h' → Sound a h → Sound a h'
stays_sound a h h' w i v p Effect.rests x = x
stays_sound a h h' w i v p (Effect.passes t l) x = x
stays_sound a h h' w i v p (Effect.plays t e rest l q) x = x
stays_sound a h h' w i v p (Effect.drops c t l n) x = x
stays_sound a h h' w i v p (Effect.holds c t l n) x = x
stays_sound a h h' w i v p (Effect.schedules c t ds l n k) x = inr (subst⁻¹ (Accepts a) (word_joined h c t ds) k.accepts)

pub sound : (a : Automaton) (h : History) (ks : List Call) (os : List Outcome) → HistoryOf a (fresh a) ks os h → (h.scheduled ≡ []) ⊎ Accepts a (word_of h.scheduled)
sound a h ks os r = kept a (λ (g : History) (w : List Event) (v : List Slot). Sound a g) (stays_sound a) (fresh a) h ks os [] [] r (inl refl)

-- The input w covers the events v and then the actions cs, at dates not below t that they do not have yet: each comes from an event of w, in order, that is not later, and some events of w are left out.
data Covers (t : ℕ) : List Event → List ℕ → List Event → Type 0 where
  end : Covers t [] [] []
  omits : {v : List Event} {cs : List ℕ} {w : List Event} (e : Event) → Covers t v cs w → Covers t v cs (e ∷ w)
  delays : {v : List Event} {cs : List ℕ} {w : List Event} (c s d : ℕ) → s ≤ d → Covers t v cs w → Covers t (record { action = c; date = d } ∷ v) cs (record { action = c; date = s } ∷ w)
  waits : {cs : List ℕ} {w : List Event} (c s : ℕ) → s ≤ t → Covers t [] cs w → Covers t [] (c ∷ cs) (record { action = c; date = s } ∷ w)

covers_later : (t u : ℕ) {v : List Event} {cs : List ℕ} {w : List Event} → t ≤ u → Covers t v cs w → Covers u v cs w
covers_later t u l Covers.end = Covers.end
covers_later t u l (Covers.omits e x) = Covers.omits e (covers_later t u l x)
covers_later t u l (Covers.delays c s d h x) = Covers.delays c s d h (covers_later t u l x)
covers_later t u l (Covers.waits c s h x) = Covers.waits c s (omega arith) (covers_later t u l x)

-- One more event is left out.
covers_omits : (t : ℕ) {v : List Event} {cs : List ℕ} {w : List Event} (e : Event) → Covers t v cs w → Covers t v cs (w ++ one e)
covers_omits t e Covers.end = Covers.omits e Covers.end
covers_omits t e (Covers.omits f x) = Covers.omits f (covers_omits t e x)
covers_omits t e (Covers.delays c s d h x) = Covers.delays c s d h (covers_omits t e x)
covers_omits t e (Covers.waits c s h x) = Covers.waits c s h (covers_omits t e x)

-- One more action waits.
covers_joins : (t c : ℕ) {v : List Event} {cs : List ℕ} {w : List Event} → Covers t v cs w → Covers t v (cs ++ one c) (w ++ one (record { action = c; date = t }))
covers_joins t c Covers.end = Covers.waits c t (le_refl t) Covers.end
covers_joins t c (Covers.omits e x) = Covers.omits e (covers_joins t c x)
covers_joins t c (Covers.delays b s d h x) = Covers.delays b s d h (covers_joins t c x)
covers_joins t c (Covers.waits b s h x) = Covers.waits b s h (covers_joins t c x)

-- The waiting actions get dates.
covers_dates : (t : ℕ) {v : List Event} {cs : List ℕ} {w : List Event} (ds : List ℕ) → length ds ≡ length cs → Monotone t ds → Covers t v cs w → Covers t (v ++ stamp cs ds) [] w
unfolding stamp
covers_dates t ds l m Covers.end = Covers.end
covers_dates t ds l m (Covers.omits e x) = Covers.omits e (covers_dates t ds l m x)
covers_dates t ds l m (Covers.delays c s d h x) = Covers.delays c s d h (covers_dates t ds l m x)
covers_dates t [] l m (Covers.waits c s h x) = absurd (omega arith)
covers_dates t (d ∷ ds) l m (Covers.waits c s h x) = Covers.delays c s d (omega (arith, m.0)) (covers_dates t ds (omega arith) (monotone_from t d ds m.0 m.1) x)

covers_delayed : (t : ℕ) {v : List Event} {cs : List ℕ} {w : List Event} → Covers t v cs w → Delayed v w
covers_delayed t Covers.end = Delayed.end
covers_delayed t (Covers.omits e x) = Delayed.omits e (covers_delayed t x)
covers_delayed t (Covers.delays c s d h x) = Delayed.delays c s d h (covers_delayed t x)
covers_delayed t (Covers.waits c s h x) = Delayed.omits (record { action = c; date = s }) (covers_delayed t x)

-- Transparency, of what is pending too.
abbrev Covered : History → List Event → Type 0
Covered h w = Covers h.date (word_of h.scheduled) (actions_of h.pending) w

joined_covered : (h : History) (w : List Event) (c t : ℕ) → h.date ≤ t → Covered h w → Covers t (word_of h.scheduled) (actions_of (joined h c t)) (w ++ one (record { action = c; date = t }))
joined_covered h w c t l x =
    subst⁻¹ (λ (cs : List ℕ). Covers t (word_of h.scheduled) cs (w ++ one (record { action = c; date = t }))) (actions_append h.pending (one (numbered_next h c t)))
    (covers_joins t c (covers_later h.date t l x))

stays_covered : (a : Automaton) (h h' : History) (w i : List Event) (v p : List Slot) → Effect a h i p h' → Covered h w → Covered h' (w ++ i)
stays_covered a h h' w i v p Effect.rests x = subst⁻¹ (Covered h) (append-nil w) x
stays_covered a h h' w i v p (Effect.passes t l) x = subst⁻¹ (Covered (after_date h t)) (append-nil w) (covers_later h.date t l x)
stays_covered a h h' w i v p (Effect.plays t e rest l q) x = subst⁻¹ (Covered (after_play h t)) (append-nil w) (covers_later h.date t l x)
stays_covered a h h' w i v p (Effect.drops c t l n) x = covers_omits t (record { action = c; date = t }) (covers_later h.date t l x)
stays_covered a h h' w i v p (Effect.holds c t l n) x = joined_covered h w c t l x
stays_covered a h h' w i v p (Effect.schedules c t ds l n k) x =
    subst⁻¹ (λ (u : List Event). Covers t u [] (w ++ one (record { action = c; date = t }))) (word_joined h c t ds)
    (covers_dates t ds k.timing.each k.timing.from_t (joined_covered h w c t l x))

pub transparent : (a : Automaton) (h : History) (ks : List Call) (os : List Outcome) → HistoryOf a (fresh a) ks os h → Delayed (word_of h.scheduled) (input_of ks os)
transparent a h ks os r = covers_delayed h.date (kept a (λ (g : History) (w : List Event) (v : List Slot). Covered g w) (stays_covered a) (fresh a) h ks os [] [] r Covers.end)

-- Where something is left after the first n, it comes next.
take_next : (n : ℕ) (u : List Slot) (e : Slot) (rest : List Slot) → drop n u ≡ e ∷ rest → take (suc n) u ≡ take n u ++ one e
take_next zero [] e rest q = absurd (nil≢cons q)
take_next zero (f ∷ u) e rest q = ap one (head-eq_of_cons-eq q)
take_next (suc n) [] e rest q = absurd (nil≢cons q)
take_next (suc n) (f ∷ u) e rest q = ap (λ (z : List Slot). f ∷ z) (take_next n u e rest q)

-- What was played is the first that was ever scheduled, in order.
abbrev InOrder : History → List Slot → Type 0
InOrder h v = (v ≡ take h.played h.scheduled) × (h.played ≤ length h.scheduled)

stays_in_order : (a : Automaton) (h h' : History) (w i : List Event) (v p : List Slot) → Effect a h i p h' → InOrder h v → InOrder h' (v ++ p)
stays_in_order a h h' w i v p Effect.rests x = (append-nil v ∙ x.0, x.1)
stays_in_order a h h' w i v p (Effect.passes t l) x = (append-nil v ∙ x.0, x.1)
stays_in_order a h h' w i v p (Effect.plays t e rest l q) x = (
  ap (λ (z : List Slot). z ++ one e) x.0 ∙ sym (take_next h.played h.scheduled e rest q),
  (drop_next h.played h.scheduled e rest q).1,
)
stays_in_order a h h' w i v p (Effect.drops c t l n) x = (append-nil v ∙ x.0, x.1)
stays_in_order a h h' w i v p (Effect.holds c t l n) x = (append-nil v ∙ x.0, x.1)
stays_in_order a h h' w i v p (Effect.schedules c t ds l n k) x =
    let s : List Slot = place (joined h c t) ds in
    (append-nil v ∙ x.0 ∙ sym (take-append-le h.played h.scheduled s x.1), omega (arith, x.1, length-append h.scheduled s))

pub played_in_order : (a : Automaton) (h : History) (ks : List Call) (os : List Outcome) → HistoryOf a (fresh a) ks os h → (played_of os ≡ take h.played h.scheduled) × (h.played ≤ length h.scheduled)
played_in_order a h ks os r = kept a (λ (g : History) (w : List Event) (v : List Slot). InOrder g v) (stays_in_order a) (fresh a) h ks os [] [] r (refl, le_refl 0)

-- The dates of an accepted word never fall.
pub accepts_rises : (a : Automaton) (w : List Event) → Accepts a w → Monotone a.loaded (dates_of w)
unfolding Accepts
accepts_rises a w x = monotone_after a [] w x

pub dates_rise : (a : Automaton) (h : History) (ks : List Call) (os : List Outcome) → HistoryOf a (fresh a) ks os h → Monotone a.loaded (dates_of (word_of h.scheduled))
dates_rise a h ks os r = elim (sound a h ks os r) [
  | inl e ↦ subst⁻¹ (λ (u : List Slot). Monotone a.loaded (dates_of (word_of u))) e tt
  | inr x ↦ accepts_rises a (word_of h.scheduled) x
]

-- Definition 5.7, and the order of what is played.
pub enforcement : (a : Automaton) → Enforcement a
unfolding Enforcement
enforcement a ks os h r = record {
  soundness = sound a h ks os r;
  transparency = transparent a h ks os r;
  physical = λ ks' os' h' q. appends a h h' ks' os' q;
  rises = dates_rise a h ks os r;
  in_order = (played_in_order a h ks os r).0;
}
