-- What holds of the numbers of every history: what each call does to them, and so every list of calls.
use mathlib.Core.Path.{◌≡◌, refl, ap, sym, ◌∙◌, subst, subst⁻¹}
use mathlib.Core.List.{List, [], ◌∷◌, ◌++◌, append_assoc, append-nil, map-append}
use Prim.Native.Nat.{ℕ, zero, suc, ◌≤◌, ◌<◌}
use native.Mathlib.Omega.{arith}
use native.Mathlib.Nat.{le_refl}
use lib.ListN.{length, length-append, drop}
use Rattle.enforcement.specs.Limits.{max_numbered}
use Rattle.enforcement.specs.Automaton.{Automaton}
use Rattle.enforcement.specs.TimedWord.{Event, Monotone}
use Rattle.enforcement.specs.History.{Request, Slot, place, History, fresh, Call, Outcome, numbered_next, joined, after_schedule, after_hold, after_date, after_drop, after_play, Answers, unknown, late, past, no_number, too_late, no_place, full, late_collect, past_collect, too_early, empty, is_dark, is_lit_lamp, HistoryOf, call}
use Rattle.enforcement.specs.Constraints.{input_of}
use Rattle.enforcement.specs.Numbers.{requests_in, requests_over, requests_of, numbers_of, offered_of, Rising, AtMost, NoneEarly, Ordered, kept_from, Numbers}
use Rattle.enforcement.proofs.Slots.{actions_length, request_place}
use Rattle.enforcement.proofs.Runs.{monotone_from}
use Rattle.enforcement.proofs.Constraints.{one, Effect, kept}

-- ---- One more at the end of a list

rising_more : (n m i : ℕ) (is : List ℕ) → Rising n is → AtMost m is → n ≤ m → m < i → Rising n (is ++ one i)
rising_more n m i [] r b h k = (omega arith, tt)
rising_more n m i (j ∷ is) r b h k = (r.0, rising_more j m i is r.1 b.1 b.0 k)

at_most_more : (n m i : ℕ) (is : List ℕ) → n ≤ m → i ≤ m → AtMost n is → AtMost m (is ++ one i)
at_most_more n m i [] h k b = (k, tt)
at_most_more n m i (j ∷ is) h k b = (omega (arith, b.0), at_most_more n m i is h k b.1)

monotone_more : (d t : ℕ) (ds : List ℕ) → Monotone d ds → AtMost t ds → d ≤ t → Monotone d (ds ++ one t)
monotone_more d t [] r b h = (h, tt)
monotone_more d t (e ∷ ds) r b h = (r.0, monotone_more e t ds r.1 b.1 b.0)

at_most_later : (n m : ℕ) (is : List ℕ) → n ≤ m → AtMost n is → AtMost m is
at_most_later n m [] h b = tt
at_most_later n m (i ∷ is) h b = (omega (arith, b.0), at_most_later n m is h b.1)

at_most_rest : (n : ℕ) (is js : List ℕ) → AtMost n (is ++ js) → AtMost n js
at_most_rest n [] js b = b
at_most_rest n (i ∷ is) js b = at_most_rest n is js b.1

-- ---- Requests that get their dates

early_append : (u v : List Slot) → NoneEarly u → NoneEarly v → NoneEarly (u ++ v)
early_append [] v x y = y
early_append (s ∷ u) v x y = (x.0, early_append u v x.1 y)

early_place : (t : ℕ) (rs : List Request) (ds : List ℕ) → AtMost t (offered_of rs) → Monotone t ds → NoneEarly (place rs ds)
unfolding place
early_place t [] ds b m = tt
early_place t (r ∷ rs) [] b m = tt
early_place t (r ∷ rs) (d ∷ ds) b m = (omega (arith, b.0, m.0), early_place t rs ds b.1 (monotone_from t d ds m.0 m.1))

-- The requests after an offer is scheduled are those before it, and it.
requests_scheduled : (h : History) (c t : ℕ) (ds : List ℕ) → length ds ≡ length (joined h c t) → requests_of (after_schedule h c t ds) ≡ requests_of h ++ one (numbered_next h c t)
requests_scheduled h c t ds e =
    let q : List Request = requests_in h.scheduled in
    append-nil _ ∙ map-append (λ (s : Slot). s.request) h.scheduled (place (joined h c t) ds) ∙ ap (λ (rs : List Request). q ++ rs) (request_place (joined h c t) ds e)
    ∙ sym (append_assoc q h.pending (one (numbered_next h c t)))

-- So they are after it is held.
requests_held : (h : History) (c t : ℕ) → requests_of h ++ one (numbered_next h c t) ≡ requests_of (after_hold h c t)
requests_held h c t = append_assoc (requests_in h.scheduled) h.pending (one (numbered_next h c t))

-- A list goes on with one more.
joins_end : (rs : List Request) (r : Request) (qs : List Request) → rs ++ (r ∷ qs) ≡ (rs ++ one r) ++ qs
joins_end rs r qs = sym (append_assoc rs (one r) qs)

-- ---- Lists in order

-- They are so at a later date, with more offers numbered.
ordered_later : {b d n : ℕ} {ss : List Slot} {rs : List Request} (e m : ℕ) → d ≤ e → n ≤ m → Ordered b d n ss rs → Ordered b e m ss rs
ordered_later {b} {d} {n} {ss} {rs} e m h k x = record {
  rise = x.rise;
  counted = at_most_later n m (numbers_of (requests_over ss rs)) k x.counted;
  none_early = x.none_early;
  offered_rise = x.offered_rise;
  offered_past = at_most_later d e (offered_of (requests_over ss rs)) h x.offered_past;
}

-- They are so with one more at their end, which has the next number.
ordered_more : {b d n : ℕ} {ss : List Slot} {rs : List Request} (r : Request) (ss' : List Slot) (rs' : List Request) → requests_over ss' rs' ≡ requests_over ss rs ++ one r → r.number ≡ suc n → b ≤ d → d ≤ r.offered → NoneEarly ss' → Ordered b d n ss rs → Ordered b r.offered (suc n) ss' rs'
ordered_more {b} {d} {n} {ss} {rs} r ss' rs' e k l h early x =
    let is : List ℕ = numbers_of (requests_over ss rs) in
    let ts : List ℕ = offered_of (requests_over ss rs) in
    let i : numbers_of (requests_over ss' rs') ≡ is ++ one r.number = ap numbers_of e ∙ map-append (λ (r : Request). r.number) (requests_over ss rs) (one r) in
    let o : offered_of (requests_over ss' rs') ≡ ts ++ one r.offered = ap offered_of e ∙ map-append (λ (r : Request). r.offered) (requests_over ss rs) (one r) in
    record {
      rise = subst⁻¹ (Rising 0) i (rising_more 0 n r.number is x.rise x.counted (omega arith) (omega arith));
      counted = subst⁻¹ (AtMost (suc n)) i (at_most_more n (suc n) r.number is (omega arith) (omega arith) x.counted);
      none_early = early;
      offered_rise = subst⁻¹ (Monotone b) o (monotone_more b r.offered ts x.offered_rise (at_most_later d r.offered ts h x.offered_past) (omega arith));
      offered_past = subst⁻¹ (AtMost r.offered) o (at_most_more d r.offered r.offered ts h (le_refl r.offered) x.offered_past);
    }

-- What rises above m rises above less.
rising_from : (n m : ℕ) (is : List ℕ) → n ≤ m → Rising m is → Rising n is
rising_from n m [] h r = tt
rising_from n m (i ∷ is) h r = (omega (arith, r.0), r.1)

-- They are so without the first that are scheduled.
ordered_left : {b d n : ℕ} (i : ℕ) (ss : List Slot) (rs : List Request) → Ordered b d n ss rs → Ordered b d n (drop i ss) rs
ordered_left zero ss rs x = x
ordered_left (suc i) [] rs x = x
ordered_left {b} (suc i) (s ∷ ss) rs x =
    ordered_left i ss rs
    (record {
      rise = rising_from 0 s.request.number (numbers_of (requests_over ss rs)) (omega (arith, x.rise.0)) x.rise.1;
      counted = x.counted.1;
      none_early = x.none_early.1;
      offered_rise = monotone_from b s.request.offered (offered_of (requests_over ss rs)) x.offered_rise.0 x.offered_rise.1;
      offered_past = x.offered_past.1;
    })

-- ---- What every call keeps

record Kept (a : Automaton) (h : History) (w : List Event) : Type 0 where
  ordered : Ordered a.loaded h.date h.numbered h.scheduled h.pending
  count_is : h.numbered ≡ length w
  count_fits : h.numbered ≤ max_numbered
  begun : a.loaded ≤ h.date

-- A call that numbers nothing: only the date moves, and what was played.
kept_later : {a : Automaton} {h : History} {w : List Event} (t n : ℕ) → h.date ≤ t → Kept a h w → Kept a (record { date = t; scheduled = h.scheduled; pending = h.pending; played = n; numbered = h.numbered }) w
kept_later {a} {h} t n l x = record {
  ordered = ordered_later t h.numbered l (le_refl h.numbered) x.ordered;
  count_is = x.count_is;
  count_fits = x.count_fits;
  begun = omega (arith, x.begun);
}

module _ {a : Automaton} {h : History} {w : List Event} (c t : ℕ) (l : h.date ≤ t) (n : h.numbered < max_numbered) (x : Kept a h w) where
  abbrev event : Event
  event = record { action = c; date = t }

  -- The offer of c at t has the next number: by what the lists are then.
  kept_numbered : (ss : List Slot) (rs : List Request) → Ordered a.loaded t (suc h.numbered) ss rs → Kept a (record { date = t; scheduled = ss; pending = rs; played = h.played; numbered = suc h.numbered }) (w ++ one event)
  kept_numbered ss rs o = record {
    ordered = o;
    count_is = omega (arith, x.count_is, length-append w (one event));
    count_fits = n;
    begun = omega (arith, x.begun);
  }

  -- It is dropped.
  kept_dropped : Kept a (after_drop h t) (w ++ one event)
  kept_dropped = kept_numbered h.scheduled h.pending (ordered_later t (suc h.numbered) l (omega arith) x.ordered)

  -- It joins the requests.
  kept_joined : (ss : List Slot) (rs : List Request) → requests_over ss rs ≡ requests_of h ++ one (numbered_next h c t) → NoneEarly ss → Kept a (record { date = t; scheduled = ss; pending = rs; played = h.played; numbered = suc h.numbered }) (w ++ one event)
  kept_joined ss rs e early = kept_numbered ss rs (ordered_more (numbered_next h c t) ss rs e refl x.begun l early x.ordered)

  -- What is pending, and the offer, were offered by t.
  joined_past : AtMost t (offered_of (joined h c t))
  joined_past =
      let q : List Request = requests_in h.scheduled in
      let p : AtMost h.date (offered_of h.pending) = at_most_rest h.date (offered_of q) (offered_of h.pending) (subst (AtMost h.date) (map-append (λ (r : Request). r.offered) q h.pending) x.ordered.offered_past) in
      subst⁻¹ (AtMost t) (map-append (λ (r : Request). r.offered) h.pending (one (numbered_next h c t))) (at_most_more h.date t t (offered_of h.pending) l (le_refl t) p)

stays_kept : (a : Automaton) (h h' : History) (w i : List Event) (v p : List Slot) → Effect a h i p h' → Kept a h w → Kept a h' (w ++ i)
stays_kept a h h' w i v p Effect.rests x = subst⁻¹ (Kept a h) (append-nil w) x
stays_kept a h h' w i v p (Effect.passes t l) x = subst⁻¹ (Kept a (after_date h t)) (append-nil w) (kept_later t h.played l x)
stays_kept a h h' w i v p (Effect.plays t e rest l q) x = subst⁻¹ (Kept a (after_play h t)) (append-nil w) (kept_later t (suc h.played) l x)
stays_kept a h h' w i v p (Effect.drops c t l n) x = kept_dropped c t l n x
stays_kept a h h' w i v p (Effect.holds c t l n) x = kept_joined c t l n x h.scheduled (joined h c t) (sym (requests_held h c t)) x.ordered.none_early
stays_kept a h h' w i v p (Effect.schedules c t ds l n k) x =
    kept_joined c t l n x (h.scheduled ++ place (joined h c t) ds) [] (requests_scheduled h c t ds (k.timing.each ∙ actions_length (joined h c t)))
    (early_append h.scheduled (place (joined h c t) ds) x.ordered.none_early (early_place t (joined h c t) ds (joined_past c t l n x) k.timing.from_t))

-- ---- Which requests there are

-- One call.
call_keeps : (a : Automaton) (h h' : History) (k : Call) (o : Outcome) (ks : List Call) (os : List Outcome) → Answers a h k o h' → requests_of h ++ kept_from (k ∷ ks) (o ∷ os) h.numbered ≡ requests_of h' ++ kept_from ks os h'.numbered
call_keeps a h h' k o ks os (unknown x) = refl
call_keeps a h h' k o ks os (late x y) = refl
call_keeps a h h' k o ks os (past x y z) = refl
call_keeps a h h' k o ks os (no_number x y z u) = refl
call_keeps a h h' k o ks os (too_late p x y) = refl
call_keeps a h h' k o ks os (no_place p x y z) = refl
call_keeps a h h' k o ks os (Answers.schedules {c = c} {t = t} {ds = ds} p x y z) =
    joins_end (requests_of h) (numbered_next h c t) (kept_from ks os (suc h.numbered))
    ∙ ap (λ (rs : List Request). rs ++ kept_from ks os (suc h.numbered)) (sym (requests_scheduled h c t ds (x.correction.timing.each ∙ actions_length (joined h c t))))
call_keeps a h h' k o ks os (full p x y z) = refl
call_keeps a h h' k o ks os (Answers.holds {c = c} {t = t} p x y z) =
    joins_end (requests_of h) (numbered_next h c t) (kept_from ks os (suc h.numbered)) ∙ ap (λ (rs : List Request). rs ++ kept_from ks os (suc h.numbered)) (requests_held h c t)
call_keeps a h h' k o ks os (Answers.drops p x y) = refl
call_keeps a h h' k o ks os (late_collect x) = refl
call_keeps a h h' k o ks os (past_collect x y) = refl
call_keeps a h h' k o ks os (Answers.plays x y z u) = refl
call_keeps a h h' k o ks os (too_early x y z u) = refl
call_keeps a h h' k o ks os (empty x y z) = refl
call_keeps a h h' k o ks os (is_dark x) = refl
call_keeps a h h' k o ks os (is_lit_lamp x) = refl

-- A list of calls.
requests_kept : (a : Automaton) (h h' : History) (ks : List Call) (os : List Outcome) → HistoryOf a h ks os h' → requests_of h' ≡ requests_of h ++ kept_from ks os h.numbered
requests_kept a h h' ks os HistoryOf.end = sym (append-nil (requests_of h))
requests_kept a h h' ks os (call {h' = m} {k = k} {ks = rest} {o = o} {os = us} x r) = requests_kept a m h' rest us r ∙ sym (call_keeps a h m k o rest us x)

history_kept : (a : Automaton) (h : History) (ks : List Call) (os : List Outcome) → HistoryOf a (fresh a) ks os h → Kept a h (input_of ks os)
history_kept a h ks os r =
    kept a (λ (g : History) (w : List Event) (v : List Slot). Kept a g w) (stays_kept a) (fresh a) h ks os [] [] r
    (record { ordered = record { rise = tt; counted = tt; none_early = tt; offered_rise = tt; offered_past = tt }; count_is = refl; count_fits = omega arith; begun = le_refl a.loaded })

-- No history is at a date before the loading date.
pub not_before : (a : Automaton) (h : History) (ks : List Call) (os : List Outcome) → HistoryOf a (fresh a) ks os h → a.loaded ≤ h.date
not_before a h ks os r = (history_kept a h ks os r).begun

pub numbers : (a : Automaton) → Numbers a
unfolding Numbers
numbers a ks os h r =
    let x = history_kept a h ks os r in
    record {
      ordered = x.ordered;
      left_ordered = ordered_left h.played h.scheduled h.pending x.ordered;
      count_is = x.count_is;
      count_fits = x.count_fits;
      requests_are = requests_kept a (fresh a) h ks os r;
      keep = λ ks' os' h' q. (kept_from ks' os' h.numbered, requests_kept a h h' ks' os' q);
    }
