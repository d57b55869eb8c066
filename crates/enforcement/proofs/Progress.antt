-- The lamp over time: the lamp rule says dark exactly when one more action can be scheduled, and a lit lamp stays lit.
use mathlib.Core.Path.{◌≡◌, refl, ap, subst, subst⁻¹}
use mathlib.Core.List.{List, [], ◌∷◌, ◌++◌, append-nil}
use mathlib.Core.Logic.{◌⊎◌, inl, inr}
use Prim.Native.Nat.{ℕ, zero, suc, ◌-◌, ◌≤◌, ◌<◌}
use native.Mathlib.Omega.{arith}
use native.Mathlib.Nat.{le_refl}
use lib.ListN.{length, length-append}
use Rattle.enforcement.specs.Automaton.{Automaton, actions}
use Rattle.enforcement.specs.TimedWord.{Configuration, Event, elapse, Run, Monotone, last_of, last_date, dates_of, stamp, origin, step, Accepting, Accepts, Known, Timing, Correction, Continues, OneIfNone}
use Rattle.enforcement.specs.History.{Request, Slot, actions_of, word_of, History, fresh, Call, offer, Outcome, dropped, numbered_next, joined, Passes, Corrects, Uncorrectable, IsOpen, after_schedule, after_hold, after_drop, Dark, Schedulable, Answers, unknown, late, past, no_number, too_late, no_place, full, late_collect, past_collect, plays, too_early, empty, is_dark, is_lit_lamp, HistoryOf, end, call}
use Rattle.enforcement.proofs.Slots.{actions_append}
use Rattle.enforcement.proofs.Saturation.{Steps, Ending}
use Rattle.enforcement.proofs.Runs
use Rattle.enforcement.proofs.Runs.{NonEmpty}
use Rattle.enforcement.proofs.Corrections.{correction_open}
use Rattle.enforcement.proofs.Simulation.{joined_non_empty}

-- ---- Dates

-- The dates of a run's second part.
run_after_monotone : (st : Steps) (P : Ending) (w v : List Event) (d : ℕ) (p : Configuration) → Run st P d p (w ++ v) → Monotone (last_of d (dates_of w)) (dates_of v)
run_after_monotone st P [] [] d p h = tt
run_after_monotone st P [] (e ∷ v) d p h = (h.0, Runs.found_show (st e.action (elapse (e.date - d) p)) h.1 (λ q k. run_after_monotone st P [] v e.date q k))
run_after_monotone st P (e ∷ w) v d p h = Runs.found_show (st e.action (elapse (e.date - d) p)) h.1 (λ q k. run_after_monotone st P w v e.date q k)

pub monotone_after : (𝒜 : Automaton) (w v : List Event) → Accepts 𝒜 (w ++ v) → Monotone (last_date 𝒜 w) (dates_of v)
unfolding Accepts
monotone_after 𝒜 w v h = run_after_monotone (step 𝒜.bytes) (Accepting 𝒜) w v 𝒜.loaded (origin 𝒜) h

dates_stamp : (cs ds : List ℕ) (v : List Event) → length ds ≡ length cs → dates_of (stamp cs ds ++ v) ≡ ds ++ dates_of v
unfolding stamp
dates_stamp [] [] v h = refl
dates_stamp [] (d ∷ ds) v h = absurd (omega arith)
dates_stamp (c ∷ cs) [] v h = absurd (omega arith)
dates_stamp (c ∷ cs) (d ∷ ds) v h = ap (λ (x : List ℕ). d ∷ x) (dates_stamp cs ds v (omega arith))

stamp_snoc : (cs ds : List ℕ) (c d : ℕ) (v : List Event) → length ds ≡ length cs → stamp (cs ++ (c ∷ [])) (ds ++ (d ∷ [])) ++ v ≡ stamp cs ds ++ (record { action = c; date = d } ∷ v)
unfolding stamp
stamp_snoc [] [] c d v h = refl
stamp_snoc [] (e ∷ ds) c d v h = absurd (omega arith)
stamp_snoc (x ∷ cs) [] c d v h = absurd (omega arith)
stamp_snoc (x ∷ cs) (e ∷ ds) c d v h = ap (λ (u : List Event). record { action = x; date = e } ∷ u) (stamp_snoc cs ds c d v (omega arith))

-- The last of some dates.
record Snoc (ds : List ℕ) (n : ℕ) : Type 0 where
  front : List ℕ
  last : ℕ
  is : ds ≡ front ++ (last ∷ [])
  size : length front ≡ n

snoc : (ds : List ℕ) (n : ℕ) → length ds ≡ suc n → Snoc ds n
snoc [] n h = absurd (omega arith)
snoc (d ∷ []) n h = record { front = []; last = d; is = refl; size = omega arith }
snoc (d ∷ (e ∷ ds)) zero h = absurd (omega arith)
snoc (d ∷ (e ∷ ds)) (suc n) h =
    let r = snoc (e ∷ ds) n (omega arith) in
    record { front = d ∷ r.front; last = r.last; is = ap (λ (x : List ℕ). d ∷ x) r.is; size = ap suc r.size }

-- Dates that never fall, cut at one of them.
monotone_below : (t : ℕ) (ds : List ℕ) (d : ℕ) (rest : List ℕ) → Monotone t (ds ++ (d ∷ rest)) → t ≤ d
monotone_below t [] d rest h = h.0
monotone_below t (e ∷ ds) d rest h = omega (arith, h.0, monotone_below e ds d rest h.1)

monotone_cut : (t : ℕ) (ds : List ℕ) (d : ℕ) (rest : List ℕ) → Monotone t (ds ++ (d ∷ rest)) → Monotone t (ds ++ (d ∷ []))
monotone_cut t [] d rest h = (h.0, tt)
monotone_cut t (e ∷ ds) d rest h = (h.0, monotone_cut e ds d rest h.1)

monotone_front : (t : ℕ) (ds : List ℕ) (d : ℕ) → Monotone t (ds ++ (d ∷ [])) → Monotone t ds
monotone_front t [] d h = tt
monotone_front t (e ∷ ds) d h = (h.0, monotone_front e ds d h.1)

-- None is below t, if neither the first dates nor d is.
monotone_start : (t l : ℕ) (ds : List ℕ) (d : ℕ) (rest : List ℕ) → Monotone t ds → t ≤ d → Monotone l (ds ++ (d ∷ rest)) → Monotone t (ds ++ (d ∷ []))
monotone_start t l [] d rest h k r = (k, tt)
monotone_start t l (e ∷ ds) d rest h k r = (h.0, monotone_cut e ds d rest r.1)

monotone_tail : (t : ℕ) (ds : List ℕ) (d : ℕ) (rest : List ℕ) → Monotone t (ds ++ (d ∷ rest)) → Monotone d rest
monotone_tail t [] d rest h = h.1
monotone_tail t (e ∷ ds) d rest h = monotone_tail e ds d rest h.1

one_if_none : (cs : List ℕ) (e : Event) (v : List Event) → OneIfNone cs (e ∷ v)
one_if_none [] e v = tt
one_if_none (c ∷ cs) e v = tt

module _ (𝒜 : Automaton) (w : List Event) where
  sooner : (d t : ℕ) (cs ds : List ℕ) → d ≤ t → Timing 𝒜 w t cs ds → Timing 𝒜 w d cs ds
  sooner d t cs ds h k = record { each = k.each; from_t = Runs.monotone_from d t ds h k.from_t; from_last = k.from_last }

  -- What continues from a later date on continues from an earlier one on.
  pub continues_sooner : (d t : ℕ) (cs : List ℕ) → d ≤ t → Continues 𝒜 w t cs → Continues 𝒜 w d cs
  continues_sooner d t cs h g = record {
    dates = g.dates;
    timing = sooner d t cs g.dates h g.timing;
    further = g.further;
    known = g.known;
    from_t = Runs.monotone_from d t (dates_of g.further) h g.from_t;
    some_more = g.some_more;
    accepts = g.accepts;
  }

  -- Actions with c at their end continue: so do the actions, with c the first of the further events.
  pub continues_less : (t : ℕ) (cs : List ℕ) (c : ℕ) (ds : List ℕ) (v : List Event) → c < actions 𝒜.bytes → Timing 𝒜 w t (cs ++ (c ∷ [])) ds → Known 𝒜 v → Accepts 𝒜 (w ++ (stamp (cs ++ (c ∷ [])) ds ++ v)) → Continues 𝒜 w t cs
  continues_less t cs c ds v h d k x =
      let r : Snoc ds (length cs) = snoc ds (length cs) (omega (arith, d.each, length-append cs (c ∷ []))) in
      let y : Accepts 𝒜 (w ++ (stamp cs r.front ++ (record { action = c; date = r.last } ∷ v))) =
      subst (λ (u : List Event). Accepts 𝒜 (w ++ u)) (stamp_snoc cs r.front c r.last v r.size) (subst (λ (z : List ℕ). Accepts 𝒜 (w ++ (stamp (cs ++ (c ∷ [])) z ++ v))) r.is x) in
      let f : Monotone t (r.front ++ (r.last ∷ [])) = subst (Monotone t) r.is d.from_t in
      let l : Monotone (last_date 𝒜 w) (r.front ++ (r.last ∷ [])) = subst (Monotone (last_date 𝒜 w)) r.is d.from_last in
      let a : Monotone (last_date 𝒜 w) (r.front ++ (r.last ∷ dates_of v)) =
      subst (Monotone (last_date 𝒜 w)) (dates_stamp cs r.front (record { action = c; date = r.last } ∷ v) r.size) (monotone_after 𝒜 w (stamp cs r.front ++ (record { action = c; date = r.last } ∷ v)) y) in
      record {
        dates = r.front;
        timing = record { each = r.size; from_t = monotone_front t r.front r.last f; from_last = monotone_front (last_date 𝒜 w) r.front r.last l };
        further = record { action = c; date = r.last } ∷ v;
        known = (h, k);
        from_t = (monotone_below t r.front r.last [] f, monotone_tail (last_date 𝒜 w) r.front r.last (dates_of v) a);
        some_more = one_if_none cs (record { action = c; date = r.last }) v;
        accepts = y;
      }

  -- The other way round: the first further event joins the actions.
  timing_more : (t : ℕ) (cs ds : List ℕ) (e : Event) (v : List Event) → Timing 𝒜 w t cs ds → t ≤ e.date → Accepts 𝒜 (w ++ (stamp cs ds ++ (e ∷ v))) → Timing 𝒜 w t (cs ++ (e.action ∷ [])) (ds ++ (e.date ∷ []))
  timing_more t cs ds e v d h x =
      let a : Monotone (last_date 𝒜 w) (ds ++ (e.date ∷ dates_of v)) = subst (Monotone (last_date 𝒜 w)) (dates_stamp cs ds (e ∷ v) d.each) (monotone_after 𝒜 w (stamp cs ds ++ (e ∷ v)) x) in
      record {
        each = omega (arith, d.each, length-append cs (e.action ∷ []), length-append ds (e.date ∷ []));
        from_t = monotone_start t (last_date 𝒜 w) ds e.date (dates_of v) d.from_t h a;
        from_last = monotone_cut (last_date 𝒜 w) ds e.date (dates_of v) a;
      }

  pub joined_timing : (t n o : ℕ) (rs : List Request) (ds : List ℕ) (e : Event) (v : List Event) → Timing 𝒜 w t (actions_of rs) ds → t ≤ e.date → Accepts 𝒜 (w ++ (stamp (actions_of rs) ds ++ (e ∷ v)))
      → Timing 𝒜 w t (actions_of (rs ++ (record { action = e.action; number = n; offered = o } ∷ []))) (ds ++ (e.date ∷ [])) × Accepts 𝒜 (w ++ (stamp (actions_of (rs ++ (record { action = e.action; number = n; offered = o } ∷ []))) (ds ++ (e.date ∷ [])) ++ v))
  joined_timing t n o rs ds e v d h x =
      subst⁻¹ (λ (cs : List ℕ). Timing 𝒜 w t cs (ds ++ (e.date ∷ [])) × Accepts 𝒜 (w ++ (stamp cs (ds ++ (e.date ∷ [])) ++ v))) (actions_append rs (record { action = e.action; number = n; offered = o } ∷ []))
      (timing_more t (actions_of rs) ds e v d h x, subst⁻¹ (λ (u : List Event). Accepts 𝒜 (w ++ u)) (stamp_snoc (actions_of rs) ds e.action e.date v d.each) x)

-- ---- What can be scheduled continues

-- Pending actions that are extensible with c at their end continue without it.
joined_continues : (𝒜 : Automaton) (ℋ : History) (c t : ℕ) → c < actions 𝒜.bytes → ℋ.date ≤ t → IsOpen 𝒜 ℋ c t → Dark 𝒜 ℋ
joined_continues 𝒜 ℋ c t k h o =
    let w : List Event = word_of ℋ.scheduled in
    let e : actions_of (joined ℋ c t) ≡ actions_of ℋ.pending ++ (c ∷ []) = actions_append ℋ.pending (numbered_next ℋ c t ∷ []) in
    continues_sooner 𝒜 w ℋ.date t (actions_of ℋ.pending) h
    (continues_less 𝒜 w t (actions_of ℋ.pending) c o.dates o.further k (subst (λ (cs : List ℕ). Timing 𝒜 w t cs o.dates) e o.timing) o.known
    (subst (λ (cs : List ℕ). Accepts 𝒜 (w ++ (stamp cs o.dates ++ o.further))) e o.accepts))

pub schedulable_dark : (𝒜 : Automaton) (ℋ : History) → Schedulable 𝒜 ℋ → Dark 𝒜 ℋ
schedulable_dark 𝒜 ℋ (Schedulable.schedules {h = z} c t ds k h x) = joined_continues 𝒜 z c t k h (correction_open x)
schedulable_dark 𝒜 ℋ (Schedulable.holds {h = z} c t k h un op r) = joined_continues 𝒜 z c t k h op
schedulable_dark 𝒜 ℋ (Schedulable.drops {h = z} c t k h un sh r) = continues_sooner 𝒜 (word_of z.scheduled) z.date t (actions_of z.pending) h (schedulable_dark 𝒜 (after_drop z t) r)

-- ---- What continues can be scheduled

-- Whether a correction exists is decided.
unfoldable pub Decides : Automaton → List Event → ℕ → Type 0
Decides 𝒜 w t = (cs : List ℕ) → NonEmpty cs → ((ds : List ℕ) × Correction 𝒜 w t cs ds) ⊎ ((ds : List ℕ) → Correction 𝒜 w t cs ds → ⊥)

-- The further events, all offered at once, get one more action scheduled.
continues_schedulable : (𝒜 : Automaton) (w : List Slot) (t n i : ℕ) → Decides 𝒜 (word_of w) t → (v : List Event) (e : Event) (rs : List Request) (ds : List ℕ) → Timing 𝒜 (word_of w) t (actions_of rs) ds
    → Known 𝒜 (e ∷ v) → Monotone t (dates_of (e ∷ v)) → Accepts 𝒜 (word_of w ++ (stamp (actions_of rs) ds ++ (e ∷ v))) → Schedulable 𝒜 (record { date = t; scheduled = w; pending = rs; played = n; numbered = i })
unfolding Decides
continues_schedulable 𝒜 w t n i dec [] e rs ds d k r x =
    let y = joined_timing 𝒜 (word_of w) t (suc i) t rs ds e [] d r.0 x in
    Schedulable.schedules e.action t (ds ++ (e.date ∷ [])) k.0 (le_refl t)
    (record { timing = y.0; accepts = subst (λ (u : List Event). Accepts 𝒜 (word_of w ++ u)) (append-nil (stamp (actions_of (rs ++ (record { action = e.action; number = suc i; offered = t } ∷ []))) (ds ++ (e.date ∷ [])))) y.1 })
continues_schedulable 𝒜 w t n i dec (f ∷ v) e rs ds d k r x =
    elim (dec (actions_of (rs ++ (record { action = e.action; number = suc i; offered = t } ∷ []))) (joined_non_empty rs (record { action = e.action; number = suc i; offered = t }))) [
      | inl c ↦ Schedulable.schedules e.action t c.0 k.0 (le_refl t) c.1
      | inr un ↦
          let y = joined_timing 𝒜 (word_of w) t (suc i) t rs ds e (f ∷ v) d r.0 x in
          Schedulable.holds e.action t k.0 (le_refl t) un (record { dates = ds ++ (e.date ∷ []); timing = y.0; further = f ∷ v; known = k.1; accepts = y.1 })
          (continues_schedulable 𝒜 w t n (suc i) dec v f (rs ++ (record { action = e.action; number = suc i; offered = t } ∷ [])) (ds ++ (e.date ∷ [])) y.0 k.1 (Runs.monotone_from t e.date (dates_of (f ∷ v)) r.0 r.1) y.1)
    ]

-- What is pending has no correction.
unfoldable pub Uncorrected : Automaton → History → Type 0
Uncorrected 𝒜 ℋ = (ℋ.pending ≡ []) ⊎ ((ds : List ℕ) → Correction 𝒜 (word_of ℋ.scheduled) ℋ.date (actions_of ℋ.pending) ds → ⊥)

pub dark_schedulable : (𝒜 : Automaton) (ℋ : History) → Decides 𝒜 (word_of ℋ.scheduled) ℋ.date → Uncorrected 𝒜 ℋ → Dark 𝒜 ℋ → Schedulable 𝒜 ℋ
unfolding Uncorrected
dark_schedulable 𝒜 ℋ dec un g = go g.further g.known g.from_t g.some_more g.accepts
  where
    w : List Event
    w = word_of ℋ.scheduled

    nobody : (rs : List Request) → rs ≡ [] → OneIfNone (actions_of rs) [] → ⊥
    nobody rs e o = subst (λ (z : List Request). OneIfNone (actions_of z) []) e o

    go : (v : List Event) → Known 𝒜 v → Monotone ℋ.date (dates_of v) → OneIfNone (actions_of ℋ.pending) v → Accepts 𝒜 (w ++ (stamp (actions_of ℋ.pending) g.dates ++ v)) → Schedulable 𝒜 ℋ
    go [] k r o x = elim un [
      | inl e ↦ absurd (nobody ℋ.pending e o)
      | inr f ↦ absurd (f g.dates (record { timing = g.timing; accepts = subst (λ (u : List Event). Accepts 𝒜 (w ++ u)) (append-nil (stamp (actions_of ℋ.pending) g.dates)) x }))
    ]
    go (e ∷ v) k r o x = continues_schedulable 𝒜 ℋ.scheduled ℋ.date ℋ.played ℋ.numbered dec v e ℋ.pending g.dates g.timing k r x

-- ---- How a call changes the history

data Change (𝒜 : Automaton) (ℋ : History) : History → Type 0 where
  same : Change 𝒜 ℋ ℋ
  later : (t n i : ℕ) → ℋ.date ≤ t → Change 𝒜 ℋ (record { date = t; scheduled = ℋ.scheduled; pending = ℋ.pending; played = n; numbered = i })
  hold : (c t : ℕ) → Passes 𝒜 ℋ c t → Uncorrectable 𝒜 ℋ c t → IsOpen 𝒜 ℋ c t → Change 𝒜 ℋ (after_hold ℋ c t)
  schedule : (c t : ℕ) (ds : List ℕ) → Passes 𝒜 ℋ c t → Corrects 𝒜 ℋ c t ds → Change 𝒜 ℋ (after_schedule ℋ c t ds)

change : {𝒜 : Automaton} {ℋ ℋ' : History} {k : Call} {o : Outcome} → Answers 𝒜 ℋ k o ℋ' → Change 𝒜 ℋ ℋ'
change (unknown h) = same
change (late h i) = same
change (past h i j) = same
change (no_number h i j k) = same
change (too_late p x f) = same
change (no_place p b h i) = same
change (Answers.schedules {c = c} {t = t} {ds = ds} p b h i) = schedule c t ds p b.correction
change (full p u o h) = same
change (Answers.holds {c = c} {t = t} p u o h) = hold c t p u o
change {ℋ} (Answers.drops {t = t} p u n) = later t ℋ.played (suc ℋ.numbered) p.current
change (late_collect h) = same
change (past_collect h i) = same
change {ℋ} (plays {t = t} h i x y) = later t (suc ℋ.played) ℋ.numbered i
change {ℋ} (too_early {t = t} h i x y) = later t ℋ.played ℋ.numbered i
change {ℋ} (empty {t = t} h i x) = later t ℋ.played ℋ.numbered i
change (is_dark h) = same
change (is_lit_lamp h) = same

-- Pending actions stay without a correction.
change_uncorrected : (𝒜 : Automaton) (ℋ ℋ' : History) → Change 𝒜 ℋ ℋ' → Uncorrected 𝒜 ℋ → Uncorrected 𝒜 ℋ'
unfolding Uncorrected
change_uncorrected 𝒜 ℋ ℋ' same u = u
change_uncorrected 𝒜 ℋ ℋ' (later t n i h) (inl e) = inl e
change_uncorrected 𝒜 ℋ ℋ' (later t n i h) (inr f) =
    inr (λ ds x. f ds (record { timing = sooner 𝒜 (word_of ℋ.scheduled) ℋ.date t (actions_of ℋ.pending) ds h x.timing; accepts = x.accepts }))
change_uncorrected 𝒜 ℋ ℋ' (hold c t p un op) u = inr un
change_uncorrected 𝒜 ℋ ℋ' (schedule c t ds p x) u = inl refl

pub history_uncorrected : (𝒜 : Automaton) (ℋ ℋ' : History) (ks : List Call) (os : List Outcome) → HistoryOf 𝒜 ℋ ks os ℋ' → Uncorrected 𝒜 ℋ → Uncorrected 𝒜 ℋ'
history_uncorrected 𝒜 ℋ ℋ' ks os end u = u
history_uncorrected 𝒜 ℋ ℋ' ks os (call {h' = x} {ks = rest} {os = us} h r) u = history_uncorrected 𝒜 x ℋ' rest us r (change_uncorrected 𝒜 ℋ x (change h) u)

pub fresh_uncorrected : (𝒜 : Automaton) → Uncorrected 𝒜 (fresh 𝒜)
unfolding Uncorrected
fresh_uncorrected 𝒜 = inl refl

-- ---- A lit lamp stays lit

change_lit : (𝒜 : Automaton) (ℋ ℋ' : History) → (Dark 𝒜 ℋ → ⊥) → Change 𝒜 ℋ ℋ' → Dark 𝒜 ℋ' → ⊥
change_lit 𝒜 ℋ ℋ' l same g = l g
change_lit 𝒜 ℋ ℋ' l (later t n i h) g = l (continues_sooner 𝒜 (word_of ℋ.scheduled) ℋ.date t (actions_of ℋ.pending) h g)
change_lit 𝒜 ℋ ℋ' l (hold c t p un op) g = l (joined_continues 𝒜 ℋ c t p.known p.current op)
change_lit 𝒜 ℋ ℋ' l (schedule c t ds p x) g = l (joined_continues 𝒜 ℋ c t p.known p.current (correction_open x))

pub history_lit : (𝒜 : Automaton) (ℋ ℋ' : History) (ks : List Call) (os : List Outcome) → (Dark 𝒜 ℋ → ⊥) → HistoryOf 𝒜 ℋ ks os ℋ' → Dark 𝒜 ℋ' → ⊥
history_lit 𝒜 ℋ ℋ' ks os l end g = l g
history_lit 𝒜 ℋ ℋ' ks os l (call {h' = x} {ks = rest} {os = us} h r) g = history_lit 𝒜 x ℋ' rest us (change_lit 𝒜 ℋ x l (change h)) r g

-- Every offer that passes the first checks is then dropped.
drops_by : (𝒜 : Automaton) (ℋ : History) (c t : ℕ) (ℋ' : History) (o : Outcome) → (Dark 𝒜 ℋ → ⊥) → Passes 𝒜 ℋ c t → Answers 𝒜 ℋ (offer c t) o ℋ' → o ≡ dropped
drops_by 𝒜 ℋ c t ℋ' o l q (unknown h) = absurd (omega arith)
drops_by 𝒜 ℋ c t ℋ' o l q (late h i) = absurd (omega arith)
drops_by 𝒜 ℋ c t ℋ' o l q (past h i j) = absurd (omega arith)
drops_by 𝒜 ℋ c t ℋ' o l q (no_number h i j k) = absurd (omega arith)
drops_by 𝒜 ℋ c t ℋ' o l q (too_late p x f) = absurd (l (joined_continues 𝒜 ℋ c t p.known p.current (correction_open x)))
drops_by 𝒜 ℋ c t ℋ' o l q (no_place p b h i) = absurd (l (joined_continues 𝒜 ℋ c t p.known p.current (correction_open b.correction)))
drops_by 𝒜 ℋ c t ℋ' o l q (Answers.schedules p b h i) = absurd (l (joined_continues 𝒜 ℋ c t p.known p.current (correction_open b.correction)))
drops_by 𝒜 ℋ c t ℋ' o l q (full p un op h) = absurd (l (joined_continues 𝒜 ℋ c t p.known p.current op))
drops_by 𝒜 ℋ c t ℋ' o l q (Answers.holds p un op h) = absurd (l (joined_continues 𝒜 ℋ c t p.known p.current op))
drops_by 𝒜 ℋ c t ℋ' o l q (Answers.drops p un sh) = refl

pub lit_drops : (𝒜 : Automaton) (ℋ ℋ' : History) (c t : ℕ) (o : Outcome) → (Dark 𝒜 ℋ → ⊥) → Passes 𝒜 ℋ c t → Answers 𝒜 ℋ (offer c t) o ℋ' → o ≡ dropped
lit_drops 𝒜 ℋ ℋ' c t o l q k = drops_by 𝒜 ℋ c t ℋ' o l q k
