-- Laws of the box's state as the model sees it: its lists, the changes that calls make, and what each part of a call promises of them.
-- Assumes nothing.
use mathlib.Core.Path.{◌≡◌, refl, ap, ap₂, sym, ◌∙◌, subst}
use mathlib.Core.Bool.{Bool, false}
use mathlib.Core.List.{List, [], ◌∷◌, ◌++◌, map, map-append}
use Prim.Native.Nat.{ℕ, zero, suc, ◌+◌, ◌-◌, ◌≤◌, ◌<◌, max}
use native.Mathlib.Omega.{arith}
use native.Mathlib.Numerals.{add-one}
use lib.Dec.{leb}
use lib.ListN.{length, take, drop, get_or, set, length-map, length-set, length-append}
use lib.Seq.{length-take-le, take-suc-set}
use borrow.Author.Tests.{lt-ltb, le-ltb, le-leb, lt-leb}
use Rattle.enforcement.specs.Limits.{max_count, max_scheduled, max_date, max_numbered}
use Rattle.enforcement.specs.Automaton.{Bytes}
use Rattle.enforcement.specs.TimedWord.{Configuration}
use Rattle.enforcement.specs.History.{Request, actions_of, place, Outcome, scheduled, held, dropped, played, nothing}
use Rattle.enforcement.specs.History as history
use Rattle.enforcement.specs.Model.{Compiled, advance, compile}
use Rattle.enforcement.specs.Monitor.{is_lit, lamp_lit, with_lamp, same, dated, joins, earliest, standing, walk, placed, kept, taken, oldest}
use Rattle.enforcement.specs.Monitor as model
use Rattle.retimer.specs.declared.limits.Request as limits
use Rattle.retimer.specs.declared.limits.Slot.{Slot}
use Rattle.retimer.specs.declared.limits.State.{State}
use Rattle.retimer.specs.declared.state.Answer.{Answer}
use Rattle.retimer.specs.declared.state.Answer.TheVariants.{Scheduled, Held, Dropped, Played, Nothing, Lit, Dark, Refused}
use Rattle.retimer.specs.declared.state.Moved.{Moved}
use Rattle.retimer.specs.declared.reason.Reason.{Reason}
use Rattle.retimer.specs.declared.reason.Reason.TheVariants.{S2, S3, S4}
use Rattle.retimer.specs.Reasons.{reason_of}
use Rattle.retimer.specs.Readings.{located, Standing}
use Rattle.retimer.specs.View.{request_of, slot_of, pending_of, schedule_of, view, StateSound}
use Rattle.retimer.specs.Calls.{no_slot, moved_of, moved_to, dropping, lamp_with, lamp_at, Idle, Done, last_action, new_dates, PlaceAsked, placed_of}
use Rattle.retimer.proofs.ProspectKinds.{advance_none}

-- ---- The lists

-- The actions to place, where c joins the pending ones.
pub joins_actions : (q : State) (c t : ℕ) → actions_of (joins (view q) c t) ≡ actions_of (pending_of q) ++ (c ∷ [])
unfolding view
joins_actions q c t = map-append (λ (r : Request). r.action) (pending_of q) (record { action = c; number = suc q.numbered; offered = t } ∷ [])

-- The offer of c at t, with the next number.
abbrev pub next_of : State → ℕ → ℕ → limits.Request
next_of q c t = record { action = c; number = q.numbered + 1; offered = t }

-- The pending requests and the next one.
joins_requests : (q : State) (c t : ℕ) → map request_of (take q.held q.pending ++ (next_of q c t ∷ [])) ≡ joins (view q) c t
unfolding view
joins_requests q c t = map-append request_of (take q.held q.pending) (next_of q c t ∷ []) ∙ ap (λ (n : ℕ). pending_of q ++ (record { action = c; number = n; offered = t } ∷ [])) (add-one q.numbered)

-- The first of a list is the first of what is kept of it.
front : {A B : Type 0} (f : A → B) (d : A) (n : ℕ) (l : List A) → 0 < n → n ≤ length l → map f (take n l) ≡ f (get_or l 0 d) ∷ map f (drop 1 (take n l))
front f d zero l h k = absurd (omega arith)
front f d (suc n) [] h k = absurd (omega arith)
front f d (suc n) (x ∷ l) h k = refl

module _ {s : Bytes} {live : List ℕ} where
  pub pending_length : (q : State) → StateSound s live q → length (view q).pending ≡ q.held
  unfolding view
  pending_length q f = length-map (take q.held q.pending) request_of ∙ length-take-le q.held q.pending (omega (arith, f.pending_sized, f.held_fits))

  pub pending_actions : (q : State) → StateSound s live q → length (actions_of (pending_of q)) ≡ q.held
  unfolding view
  pending_actions q f = length-map (pending_of q) (λ (r : Request). r.action) ∙ pending_length q f

  pub schedule_length : (q : State) → StateSound s live q → length (view q).schedule ≡ q.planned
  unfolding view
  schedule_length q f = length-map (take q.planned q.schedule) slot_of ∙ length-take-le q.planned q.schedule (omega (arith, f.schedule_sized, f.planned_fits))

  pub joins_length : (q : State) (c t : ℕ) → StateSound s live q → length (joins (view q) c t) ≡ q.held + 1
  joins_length q c t f = length-append (view q).pending (record { action = c; number = suc (view q).numbered; offered = t } ∷ []) ∙ ap (λ (n : ℕ). n + 1) (pending_length q f)

  schedule_front : (q : State) → StateSound s live q → 0 < q.planned → schedule_of q ≡ slot_of (get_or q.schedule 0 no_slot) ∷ map slot_of (drop 1 (take q.planned q.schedule))
  schedule_front q f h = front slot_of no_slot q.planned q.schedule h (omega (arith, f.schedule_sized, f.planned_fits))

-- ---- States that calls give

-- One more action is pending.
abbrev pub holding : State → ℕ → ℕ → State
holding q c t = record { date = t; pending = set q.pending q.held (next_of q c t); held = q.held + 1; schedule = q.schedule; planned = q.planned; location = q.location; readings = q.readings; last = q.last; numbered = q.numbered + 1; lit = false }

-- The pending actions and one more are scheduled.
abbrev pub placing : State → ℕ → List Slot → ℕ → List ℕ → ℕ → Bool → State
placing q t slots l r last lit = record { date = t; pending = q.pending; held = 0; schedule = slots; planned = q.planned + (q.held + 1); location = l; readings = r; last = last; numbered = q.numbered + 1; lit = lit }

-- The oldest scheduled event is played.
abbrev pub playing : State → ℕ → List Slot → Bool → State
playing q t slots lit = record { date = t; pending = q.pending; held = q.held; schedule = slots; planned = q.planned - 1; location = q.location; readings = q.readings; last = q.last; numbered = q.numbered; lit = lit }

-- Neither "refused" nor "held".
abbrev pub Plain : Answer → Type 0
Plain (Scheduled n d) = Unit {0}
Plain (Held n) = ⊥
Plain Dropped = Unit {0}
Plain (Played e) = Unit {0}
Plain Nothing = Unit {0}
Plain Lit = Unit {0}
Plain Dark = Unit {0}
Plain (Refused p) = ⊥

abbrev pub answering : Outcome → model.Monitor → model.Answered
answering o v = record { outcome = o; monitor = v }

-- A view with other lists, another configuration, another count and another lamp.
view_path : {t last : ℕ} {rs rs' : List Request} {ss ss' : List history.Slot} {x x' : Configuration} {n n' : ℕ} {l l' : Bool} → rs ≡ rs' → ss ≡ ss' → x ≡ x' → n ≡ n' → l ≡ l'
    → ◌≡◌ {A = model.Monitor} (record { date = t; pending = rs; schedule = ss; configuration = x; last = last; numbered = n; lit = l }) (record { date = t; pending = rs'; schedule = ss'; configuration = x'; last = last; numbered = n'; lit = l' })
view_path {t} {last} d e f h g = λ i. record { date = t; pending = d i; schedule = e i; configuration = f i; last = last; numbered = h i; lit = g i }

-- Only the date, the count and the lamp moved.
moved_view : (s : Bytes) (q : State) (t n n' : ℕ) (lit : Bool) → n ≡ n' → lit ≡ lamp_at s q t → view (moved_to q t n lit) ≡ dated (compile s) (view q) t n'
unfolding view lamp_lit
moved_view s q t n n' lit e l = view_path refl refl refl e l

-- ---- What the parts of a call promise

module _ {s : Bytes} {live : List ℕ} where
  pub done_same : {q : State} {w v : model.Answered} {r : Moved} → Done s live q w r → w ≡ v → Done s live q v r
  done_same {q} {w} {v} {r} d e = subst (λ (x : model.Answered). Done s live q x r) e d

  -- A refusal.
  pub refused_done : (q : State) (p : Reason) (w : model.Answered) → StateSound s live q → same (view q) (reason_of p) ≡ w → Done s live q w (record { state = q; answer = Refused p })
  refused_done q p w f e = record { is = e; sound = f; refused_same = λ x k. refl; idle_same = λ z. absurd z; held_count = λ n k. let z : ◌≡◌ {A = ℕ} 0 1 = cc in absurd (omega arith) }

  pub plain_done : (q : State) (w : model.Answered) (r : Moved) → Plain r.answer → (Idle r.answer → r.state ≡ moved_to q r.state.date r.state.numbered r.state.lit) → moved_of r ≡ w → StateSound s live r.state → Done s live q w r
  plain_done q w r p i e f = record { is = e; sound = f; idle_same = i; refused_same = λ x k. absurd (subst Plain k p); held_count = λ n k. absurd (subst Plain k p) }

  moved_sound : (q : State) (t n : ℕ) (lit : Bool) → StateSound s live q → t ≤ max_date → n ≤ max_numbered → StateSound s live (moved_to q t n lit)
  moved_sound q t n lit f h k = record { loads = f.loads; table = f.table; pending_sized = f.pending_sized; held_fits = f.held_fits; schedule_sized = f.schedule_sized; planned_fits = f.planned_fits; standing = f.standing; date_fits = h; last_fits = f.last_fits; numbered_fits = k }

  -- Case 3.
  pub dropped_done : (q : State) (t : ℕ) (lit : Bool) (w : model.Answered) → StateSound s live q → t ≤ max_date → q.numbered < max_numbered → lit ≡ lamp_at s q t → answering dropped (dated (compile s) (view q) t (suc (view q).numbered)) ≡ w → Done s live q w (dropping q t lit)
  unfolding view
  dropped_done q t lit w f h k l e = plain_done q w (dropping q t lit) tt (λ z. refl) (ap (answering dropped) (moved_view s q t (q.numbered + 1) (suc q.numbered) lit (add-one q.numbered) l) ∙ e) (moved_sound q t (q.numbered + 1) lit f h (omega arith))

  -- Case 2.
  holding_sound : (q : State) (c t : ℕ) → StateSound s live q → t ≤ max_date → q.numbered < max_numbered → q.held < max_count → StateSound s live (holding q c t)
  holding_sound q c t f h n k = record { loads = f.loads; table = f.table; pending_sized = length-set q.pending q.held (next_of q c t) ∙ f.pending_sized; held_fits = omega arith; schedule_sized = f.schedule_sized; planned_fits = f.planned_fits; standing = f.standing; date_fits = h; last_fits = f.last_fits; numbered_fits = omega arith }

  holding_is : (q : State) (c t : ℕ) → StateSound s live q → q.held < max_count → lamp_with s q t (actions_of (joins (view q) c t)) ≡ false → answering held (view (holding q c t)) ≡ kept (compile s) (view q) c t (leb max_count (length (view q).pending))
  unfolding kept view lamp_lit
  holding_is q c t f k d =
      let e : take (q.held + 1) (set q.pending q.held (next_of q c t)) ≡ take q.held q.pending ++ (next_of q c t ∷ []) = rw (add-one, take-suc-set q.pending q.held (next_of q c t) (omega (arith, f.pending_sized))) in
      rw (pending_length q f, lt-leb max_count q.held k) (ap (answering held) (view_path (ap (map request_of) e ∙ joins_requests q c t) refl refl (add-one q.numbered) (sym d)))

  pub full_done : (q : State) (c t : ℕ) → StateSound s live q → max_count ≤ q.held → Done s live q (kept (compile s) (view q) c t (leb max_count (length (view q).pending))) (record { state = q; answer = Refused S4 })
  unfolding kept
  full_done q c t f h = refused_done q S4 (kept (compile s) (view q) c t (leb max_count (length (view q).pending))) f (rw (pending_length q f, le-leb max_count q.held h))

  pub held_done : (q : State) (c t : ℕ) → StateSound s live q → t ≤ max_date → q.numbered < max_numbered → q.held < max_count → lamp_with s q t (actions_of (joins (view q) c t)) ≡ false → Done s live q (kept (compile s) (view q) c t (leb max_count (length (view q).pending))) (record { state = holding q c t; answer = Held (q.held + 1) })
  held_done q c t f h i k d = record {
    is = holding_is q c t f k d;
    sound = holding_sound q c t f h i k;
    refused_same = λ p e. let z : ◌≡◌ {A = ℕ} 0 1 = cc in absurd (omega arith);
    idle_same = λ z. absurd z;
    held_count = λ n e. let z : q.held + 1 ≡ n = cc in sym z ∙ sym (pending_length (holding q c t) (holding_sound q c t f h i k));
  }

  -- Case 1.
  pub late_done : (q : State) (t : ℕ) (cs ds : List ℕ) (last : ℕ) → StateSound s live q → max_date < last → Done s live q (placed_of s q t cs ds last) (record { state = q; answer = Refused S2 })
  unfolding placed
  late_done q t cs ds last f h = refused_done q S2 (placed_of s q t cs ds last) f (rw (lt-ltb max_date last h))

  pub crowded_done : (q : State) (t : ℕ) (cs ds : List ℕ) (last : ℕ) → StateSound s live q → last ≤ max_date → max_scheduled - q.planned < q.held + 1 → Done s live q (placed_of s q t cs ds last) (record { state = q; answer = Refused S3 })
  unfolding placed
  crowded_done q t cs ds last f h k =
      refused_done q S3 (placed_of s q t cs ds last) f
      (rw (le-ltb max_date last h, schedule_length q f, joins_length q (last_action q cs) t f, lt-ltb (max_scheduled - q.planned) (q.held + 1) k))

  placing_sound : (q : State) (t : ℕ) (slots : List Slot) (l : ℕ) (r : List ℕ) (last : ℕ) (lit : Bool) → StateSound s live q → t ≤ max_date → q.numbered < max_numbered → length slots ≡ max_scheduled → q.planned + (q.held + 1) ≤ max_scheduled → Standing s l r → last ≤ max_date → StateSound s live (placing q t slots l r last lit)
  placing_sound q t slots l r last lit f h i k n p e = record { loads = f.loads; table = f.table; pending_sized = f.pending_sized; held_fits = omega arith; schedule_sized = k; planned_fits = n; standing = p; date_fits = h; last_fits = e; numbered_fits = omega arith }

-- What place works out.
module _ {s : Bytes} {live : List ℕ} (q : State) (t : ℕ) (cs ds : List ℕ) (l : ℕ) (r : List ℕ) (last : ℕ) (slots : List Slot) (lit : Bool) (p : PlaceAsked s live q t cs ds last l r)
    (e : map slot_of (take (q.planned + (q.held + 1)) slots) ≡ map slot_of (take q.planned q.schedule) ++ place (pending_of q ++ (request_of (next_of q (last_action q cs) t) ∷ [])) (take (q.held + 1) ds)) (none : lit ≡ is_lit (compile s) (located l r) []) where
  -- Where the actions end.
  abbrev ending : Configuration
  ending = walk (compile s).step (actions_of (joins (view q) (last_action q cs) t)) (new_dates q ds) (earliest (view q) t) (standing (view q) t)

  -- That is also where the next one can be played.
  ends_here : located l r ≡ advance (max t last - last) ending
  ends_here =
      let z : max t last - last ≡ 0 = omega (arith, p.ordered) in
      sym (advance_none (located l r) (p.stands.readings.first, p.stands.readings.second)) ∙ ap₂ advance (sym z) p.reached

  placing_view : view (placing q t slots l r last lit) ≡ with_lamp (compile s) (record {
    date = t;
    pending = [];
    schedule = (view q).schedule ++ place (joins (view q) (last_action q cs) t) (new_dates q ds);
    configuration = ending;
    last = last;
    numbered = suc (view q).numbered;
    lit = (view q).lit;
  })
  unfolding view lamp_lit
  placing_view =
      let z : pending_of q ++ (request_of (next_of q (last_action q cs) t) ∷ []) ≡ joins (view q) (last_action q cs) t = ap (λ (n : ℕ). pending_of q ++ (record { action = last_action q cs; number = n; offered = t } ∷ [])) (add-one q.numbered) in
      view_path refl (e ∙ ap (λ (rs : List Request). schedule_of q ++ place rs (new_dates q ds)) z) p.reached (add-one q.numbered) (none ∙ ap (λ (x : Configuration). is_lit (compile s) x []) ends_here)

  module _ (d : length ds ≡ max_count + 1) (h : last ≤ max_date) (k : q.held + 1 ≤ max_scheduled - q.planned) where
    placing_is : answering (scheduled (q.held + 1) last) (view (placing q t slots l r last lit)) ≡ placed_of s q t cs ds last
    unfolding placed
    placing_is =
        rw (le-ltb max_date last h, schedule_length q p.sound, joins_length q (last_action q cs) t p.sound, le-ltb (max_scheduled - q.planned) (q.held + 1) k, length-take-le (q.held + 1) ds (omega (arith, p.sound.held_fits)))
        (ap (answering (scheduled (q.held + 1) last)) placing_view)

    pub placed_done : length slots ≡ max_scheduled → Done s live q (placed_of s q t cs ds last) (record { state = placing q t slots l r last lit; answer = Scheduled (q.held + 1) last })
    placed_done n =
        plain_done q (placed_of s q t cs ds last) (record { state = placing q t slots l r last lit; answer = Scheduled (q.held + 1) last }) tt (λ z. absurd z) placing_is
        (placing_sound q t slots l r last lit p.sound p.early p.countable n (omega (arith, p.sound.planned_fits)) p.stands h)

-- ---- A collection

module _ (m : Compiled) (v : model.Monitor) (t : ℕ) where
  oldest_none : (ss : List history.Slot) → ss ≡ [] → answering nothing (dated m v t v.numbered) ≡ oldest m v t ss
  unfolding oldest
  oldest_none ss e = rw e

  oldest_early : (ss : List history.Slot) (e : history.Slot) (rest : List history.Slot) → ss ≡ e ∷ rest → t < e.date → answering nothing (dated m v t v.numbered) ≡ oldest m v t ss
  unfolding oldest taken
  oldest_early ss e rest z h = rw (z, lt-leb e.date t h)

  oldest_played : (ss : List history.Slot) (e : history.Slot) (rest : List history.Slot) → ss ≡ e ∷ rest → e.date ≤ t
      → answering (played e.request.action e.date e.request.number e.request.offered) (with_lamp m (record { date = t; pending = v.pending; schedule = rest; configuration = v.configuration; last = v.last; numbered = v.numbered; lit = v.lit })) ≡ oldest m v t ss
  unfolding oldest taken
  oldest_played ss e rest z h = rw (z, le-leb e.date t h)

-- The oldest scheduled event.
abbrev first : State → Slot
first q = get_or q.schedule 0 no_slot

module _ {s : Bytes} {live : List ℕ} (q : State) (t : ℕ) (lit : Bool) (f : StateSound s live q) (h : t ≤ max_date) (l : lit ≡ lamp_at s q t) where
  -- The state and the model's answer.
  abbrev waiting : Moved
  waiting = record { state = moved_to q t q.numbered lit; answer = Nothing }

  abbrev answered : model.Answered
  answered = oldest (compile s) (view q) t (view q).schedule

  none_done : answering nothing (dated (compile s) (view q) t (view q).numbered) ≡ answered → Done s live q answered waiting
  unfolding view
  none_done e = plain_done q answered waiting tt (λ z. refl) (ap (answering nothing) (moved_view s q t q.numbered q.numbered lit refl l) ∙ e) (moved_sound q t q.numbered lit f h f.numbered_fits)

  pub empty_done : q.planned ≡ 0 → Done s live q answered waiting
  unfolding view
  empty_done z = none_done (oldest_none (compile s) (view q) t (schedule_of q) (rw z))

  pub early_done : 0 < q.planned → t < (first q).date → Done s live q answered waiting
  unfolding view
  early_done k e = none_done (oldest_early (compile s) (view q) t (schedule_of q) _ _ (schedule_front q f k) e)

  module _ (slots : List Slot) (k : 0 < q.planned) (e : (first q).date ≤ t) (g : take (q.planned - 1) slots ≡ drop 1 (take q.planned q.schedule)) (n : length slots ≡ max_scheduled) where
    played_is : answering (played (first q).request.action (first q).date (first q).request.number (first q).request.offered) (view (playing q t slots lit)) ≡ answered
    unfolding view lamp_lit
    played_is = ap (answering (played (first q).request.action (first q).date (first q).request.number (first q).request.offered)) (view_path refl (ap (map slot_of) g) refl refl l) ∙ oldest_played (compile s) (view q) t (schedule_of q) _ _ (schedule_front q f k) e

    playing_sound : StateSound s live (playing q t slots lit)
    playing_sound = record { loads = f.loads; table = f.table; pending_sized = f.pending_sized; held_fits = f.held_fits; schedule_sized = n; planned_fits = omega (arith, f.planned_fits); standing = f.standing; date_fits = h; last_fits = f.last_fits; numbered_fits = f.numbered_fits }

    pub played_done : Done s live q answered (record { state = playing q t slots lit; answer = Played (first q) })
    played_done = plain_done q answered (record { state = playing q t slots lit; answer = Played (first q) }) tt (λ z. absurd z) played_is playing_sound
