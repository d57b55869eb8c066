-- What a call promises, from what its parts do: Done makes MoveRight by the model's answer to each call, and MoveRight of a box's parts makes CallRight.
-- Assumes nothing.
use mathlib.Core.Path.{◌≡◌, refl, ap, sym, ◌∙◌, subst⁻¹}
use mathlib.Core.Bool.{Bool, true, false, cond}
use mathlib.Core.List.{List, [], ◌∷◌, ◌++◌}
use Prim.Native.Nat.{ℕ, suc, ◌+◌, ◌-◌, ◌≤◌, ◌<◌, max}
use native.Mathlib.Omega.{arith}
use lib.Dec.{leb, ltb}
use lib.ListN.{length}
use lib.Seq.{length-take-le}
use borrow.Author.Tests.{lt-ltb, le-ltb, lt-leb, le-leb}
use Rattle.enforcement.specs.Limits.{max_count, max_scheduled, max_date, max_numbered}
use Rattle.enforcement.specs.Automaton.{Bytes, Automaton, automaton, actions}
use Rattle.enforcement.specs.TimedWord.{Configuration}
use Rattle.enforcement.specs.History.{History, fresh, actions_of, dropped, Call, offer, collect, lamp, end, call}
use Rattle.enforcement.specs.History as history
use Rattle.enforcement.specs.Model.{Prospect, ticks, extensible, dead, Compiled, compile, advance}
use Rattle.enforcement.specs.Monitor.{is_lit, lamp_lit, earliest, standing, joins, dated, placed, kept, decided, checked, offered, taken, oldest, picked, collected, answer}
use Rattle.enforcement.specs.Monitor as model
use Rattle.enforcement.specs.Demands.{StandsFor, Demand2, Demand2All, Admitted}
use Rattle.enforcement.proofs.Loading.{bounded}
use Rattle.enforcement.proofs.Histories.{history_append}
use Rattle.enforcement.proofs.Progress.{history_lit}
use Rattle.enforcement.proofs.Model.{lit_shows, not_dark_lit, lamp_rule}
use Rattle.enforcement.proofs.Promises.{demand_2, exhausted_drops}
use Rattle.retimer.specs.declared.limits.State.{State}
use Rattle.retimer.specs.declared.limits.Monitor.{Monitor}
use Rattle.retimer.specs.declared.state.Answer.TheVariants.{Lit, Dark, Refused}
use Rattle.retimer.specs.declared.state.Moved.{Moved}
use Rattle.retimer.specs.declared.reason.Reason.TheVariants.{I7, I8, S1, S5}
use Rattle.retimer.specs.Readings.{located}
use Rattle.retimer.specs.View.{bytes_of, view, Sound, Recorded, StateValid, Valid}
use Rattle.retimer.specs.Calls.{moved_of, dropping, lamp_at, with_state, Done, MoveRight, CallRight}
use Rattle.retimer.proofs.Views.{answering, done_same, refused_done, plain_done, dropped_done}

-- ---- From the parts to the call

pub view_lit : (q : State) {v : model.Monitor} → view q ≡ v → q.lit ≡ v.lit
unfolding view
view_lit q e = ap (λ (x : model.Monitor). x.lit) e

-- One more call.
recorded_more : {s : Bytes} {v : model.Monitor} {k : Call} {w : model.Answered} (r : Recorded s v) → Demand2 (automaton s r.loaded) r.history k w → Recorded s w.monitor
recorded_more {s} {v} {k} {w} r d = let a = automaton s r.loaded in record {
  loaded = r.loaded;
  loaded_fits = r.loaded_fits;
  past = r.past ++ (k ∷ []);
  outcomes = r.outcomes ++ (w.outcome ∷ []);
  history = d.history;
  recorded = history_append a (fresh a) r.history d.history r.past (k ∷ []) r.outcomes (w.outcome ∷ []) r.recorded (call d.answers end);
  stands = d.stands;
}

module _ {s : Bytes} {live : List ℕ} {q : State} (v : StateValid s live q) (k : Call) (r : Moved) where
  demand : moved_of r ≡ answer (compile s) (view q) k → (d : ℕ) (h : History) → StandsFor (automaton s d) (view q) h → Demand2 (automaton s d) h k (moved_of r)
  unfolding Demand2All
  demand e d h f = subst⁻¹ (λ (w : model.Answered). Demand2 (automaton s d) h k w) e (demand_2 (automaton s d) (bounded s v.sound.loads) h (view q) f k)

  done_right : Done s live q (answer (compile s) (view q) k) r → MoveRight s live q k r
  done_right d = record {
    is = d.is;
    rule = demand d.is;
    valid = record { sound = d.sound; recorded = recorded_more v.recorded (demand d.is v.recorded.loaded v.recorded.history v.recorded.stands) };
    refused_same = d.refused_same;
    idle_same = d.idle_same;
    held_count = d.held_count;
  }

-- ---- From the state to the box

pub sheet_size : {b : Monitor} → Sound b → b.size ≡ length (bytes_of b)
sheet_size {b} f = sym (length-take-le b.size b.bytes (omega (arith, f.bytes_sized, f.size_fits)))

pub valid_state : {b : Monitor} → Valid b → StateValid (bytes_of b) b.live b.state
valid_state v = record { sound = v.sound.state; recorded = v.recorded }

pub valid_box : {b : Monitor} {q : State} → Sound b → StateValid (bytes_of b) b.live q → Valid (with_state b q)
valid_box f v = record { sound = record { bytes_sized = f.bytes_sized; size_fits = f.size_fits; state = v.sound }; recorded = v.recorded }

-- A call on the parts of a box is one on the box.
pub move_call : {b : Monitor} {k : Call} {r : Moved} → Sound b → MoveRight (bytes_of b) b.live b.state k r → CallRight b k (record { monitor = with_state b r.state; answer = r.answer })
move_call {b} f m = record {
  is = m.is;
  rule = m.rule;
  valid = valid_box f m.valid;
  kept = refl;
  idle_same = m.idle_same;
  refused_same = λ q e. ap (with_state b) (m.refused_same q e);
  held_count = m.held_count;
}

-- ---- An offer, by its first checks

pub known_is : (s : Bytes) → (compile s).known ≡ actions s
unfolding compile
known_is s = refl

view_date : (q : State) → (view q).date ≡ q.date
unfolding view
view_date q = refl

view_numbered : (q : State) → (view q).numbered ≡ q.numbered
unfolding view
view_numbered q = refl

module _ {s : Bytes} {live : List ℕ} {q : State} (v : StateValid s live q) (c t : ℕ) where
  offer_is : (x y z u : Bool) → ltb c (actions s) ≡ x → ltb max_date t ≡ y → ltb t q.date ≡ z → leb max_numbered q.numbered ≡ u → checked (compile s) (view q) c t x y z u ≡ answer (compile s) (view q) (offer c t)
  unfolding answer offered
  offer_is x y z u e f g h = rw (known_is, view_date, view_numbered, e, f, g, h)

  pub offer_unknown : actions s ≤ c → MoveRight s live q (offer c t) (record { state = q; answer = Refused I7 })
  unfolding checked
  offer_unknown h = done_right v (offer c t) _ (refused_done q I7 _ v.sound (offer_is false (ltb max_date t) (ltb t q.date) (leb max_numbered q.numbered) (le-ltb c (actions s) h) refl refl refl))

  pub offer_late : c < actions s → max_date < t → MoveRight s live q (offer c t) (record { state = q; answer = Refused I8 })
  unfolding checked
  offer_late h k = done_right v (offer c t) _ (refused_done q I8 _ v.sound (offer_is true true (ltb t q.date) (leb max_numbered q.numbered) (lt-ltb c (actions s) h) (lt-ltb max_date t k) refl refl))

  pub offer_past : c < actions s → t ≤ max_date → t < q.date → MoveRight s live q (offer c t) (record { state = q; answer = Refused S1 })
  unfolding checked
  offer_past h k p = done_right v (offer c t) _ (refused_done q S1 _ v.sound (offer_is true false true (leb max_numbered q.numbered) (lt-ltb c (actions s) h) (le-ltb max_date t k) (lt-ltb t q.date p) refl))

  pub offer_unnumbered : c < actions s → t ≤ max_date → q.date ≤ t → max_numbered ≤ q.numbered → MoveRight s live q (offer c t) (record { state = q; answer = Refused S5 })
  unfolding checked
  offer_unnumbered h k p n = done_right v (offer c t) _ (refused_done q S5 _ v.sound (offer_is true false false true (lt-ltb c (actions s) h) (le-ltb max_date t k) (le-ltb t q.date p) (le-leb max_numbered q.numbered n)))

  module _ (known : c < actions s) (early : t ≤ max_date) (current : q.date ≤ t) (countable : q.numbered < max_numbered) where
    pub passed_is : checked (compile s) (view q) c t true false false false ≡ answer (compile s) (view q) (offer c t)
    passed_is = offer_is true false false false (lt-ltb c (actions s) known) (le-ltb max_date t early) (le-ltb t q.date current) (lt-leb max_numbered q.numbered countable)

    pub offer_decided : {r : Moved} → Done s live q (checked (compile s) (view q) c t true false false false) r → MoveRight s live q (offer c t) r
    offer_decided {r} d = done_right v (offer c t) r (done_same d passed_is)

-- ---- A collection, by its first checks

module _ {s : Bytes} {live : List ℕ} {q : State} (v : StateValid s live q) (t : ℕ) where
  collect_is : (y z : Bool) → ltb max_date t ≡ y → ltb t q.date ≡ z → picked (compile s) (view q) t y z ≡ answer (compile s) (view q) (collect t)
  unfolding answer collected
  collect_is y z f g = rw (view_date, f, g)

  pub collect_late : max_date < t → MoveRight s live q (collect t) (record { state = q; answer = Refused I8 })
  unfolding picked
  collect_late k = done_right v (collect t) _ (refused_done q I8 _ v.sound (collect_is true (ltb t q.date) (lt-ltb max_date t k) refl))

  pub collect_past : t ≤ max_date → t < q.date → MoveRight s live q (collect t) (record { state = q; answer = Refused S1 })
  unfolding picked
  collect_past k p = done_right v (collect t) _ (refused_done q S1 _ v.sound (collect_is false true (le-ltb max_date t k) (lt-ltb t q.date p)))

  pub collect_played : {r : Moved} → t ≤ max_date → q.date ≤ t → Done s live q (oldest (compile s) (view q) t (view q).schedule) r → MoveRight s live q (collect t) r
  unfolding picked
  collect_played {r} k p d = done_right v (collect t) r (done_same d (collect_is false false (le-ltb max_date t k) (le-ltb t q.date p)))

-- ---- A lit lamp

-- Only "dropped" is answered by dropping.
decided_dropped : (m : Compiled) (b : model.Monitor) (c t : ℕ) (g : Configuration → ℕ → List ℕ) (a : Prospect) → (decided m b c t g a).outcome ≡ dropped → answering dropped (dated m b t (suc b.numbered)) ≡ decided m b c t g a
unfolding decided placed kept
decided_dropped m b c t g (ticks n) e = absurd (go (ltb max_date (earliest b t + n)) (ltb (max_scheduled - length b.schedule) (length (joins b c t))) e)
  where
    go : (x y : Bool) → (placed m b c t (g (standing b t) (earliest b t)) (earliest b t + n) x y).outcome ≡ dropped → ⊥
    go true y e = let z : ◌≡◌ {A = ℕ} 0 1 = cc in omega arith
    go false true e = let z : ◌≡◌ {A = ℕ} 0 1 = cc in omega arith
    go false false e = let z : ◌≡◌ {A = ℕ} 0 1 = cc in omega arith
decided_dropped m b c t g extensible e = absurd (go (leb max_count (length b.pending)) e)
  where
    go : (x : Bool) → (kept m b c t x).outcome ≡ dropped → ⊥
    go true e = let z : ◌≡◌ {A = ℕ} 0 1 = cc in omega arith
    go false e = let z : ◌≡◌ {A = ℕ} 0 1 = cc in omega arith
decided_dropped m b c t g dead e = refl

-- A collection sets the lamp for its date, whatever it plays.
oldest_lit : (m : Compiled) (b : model.Monitor) (t : ℕ) (ss : List history.Slot) → (oldest m b t ss).monitor.lit ≡ is_lit m (standing b t) (actions_of b.pending)
unfolding oldest taken lamp_lit
oldest_lit m b t [] = refl
oldest_lit m b t (e ∷ ss) = go (leb e.date t)
  where
    go : (x : Bool) → (taken m b t e ss x).monitor.lit ≡ is_lit m (standing b t) (actions_of b.pending)
    go true = refl
    go false = refl

module _ {s : Bytes} {live : List ℕ} {q : State} (v : StateValid s live q) where
  abbrev a : Automaton
  a = automaton s v.recorded.loaded

  abbrev past : History
  past = v.recorded.history

  -- The stored lamp is the one by the rule.
  lamp_stored : q.lit ≡ lamp_at s q q.date
  unfolding view lamp_lit
  lamp_stored = lamp_rule a (bounded s v.sound.loads) past (view q) v.recorded.stands

  pub lamp_same : (t : ℕ) → q.lit ≡ false → max t q.last ≡ max q.date q.last → false ≡ lamp_at s q t
  unfolding view
  lamp_same t e h = sym e ∙ lamp_stored ∙ ap (λ (n : ℕ). is_lit (compile s) (advance (n - q.last) (located q.location q.readings)) (actions_of (view q).pending)) (sym h)

  module _ (t : ℕ) (lit : q.lit ≡ true) (early : t ≤ max_date) (current : q.date ≤ t) where
    not_dark : history.Dark a past → ⊥
    unfolding view
    not_dark = lit_shows v.recorded.stands lit

    -- A lit lamp stays lit.
    pub lamp_later : true ≡ lamp_at s q t
    unfolding Demand2All picked
    lamp_later =
        let w : model.Answered = answer (compile s) (view q) (collect t) in
        let d : Demand2 a past (collect t) w = demand_2 a (bounded s v.sound.loads) past (view q) v.recorded.stands (collect t) in
        sym (not_dark_lit d.stands (history_lit a past d.history (collect t ∷ []) (w.outcome ∷ []) not_dark (call d.answers end)))
        ∙ ap (λ (x : model.Answered). x.monitor.lit) (sym (collect_is v t false false (le-ltb max_date t early) (le-ltb t q.date current)))
        ∙ oldest_lit (compile s) (view q) t (view q).schedule

    -- An offer is dropped.
    pub offer_lit : (c : ℕ) → c < actions s → q.numbered < max_numbered → MoveRight s live q (offer c t) (dropping q t true)
    unfolding checked view
    offer_lit c known countable =
        let i : Admitted a (view q) c t = record { known = known; early = early; current = current; countable = countable } in
        let e : (answer (compile s) (view q) (offer c t)).outcome ≡ dropped = exhausted_drops a (bounded s v.sound.loads) (view q) (record { history = past; stands = v.recorded.stands; not_dark = not_dark }) c t i in
        offer_decided v c t known early current countable
        (dropped_done q t true _ v.sound early countable lamp_later (decided_dropped (compile s) (view q) c t _ _ (ap (λ (x : model.Answered). x.outcome) (passed_is v c t known early current countable) ∙ e)))

-- ---- The lamp

pub lamp_right : {b : Monitor} (x : Bool) → Valid b → b.state.lit ≡ x → CallRight b lamp (record { monitor = b; answer = cond x Lit Dark })
unfolding answer view
lamp_right {b} true v e = move_call v.sound (done_right (valid_state v) lamp _ (plain_done b.state _ (record { state = b.state; answer = Lit }) tt (λ z. refl) (rw e) v.sound.state))
lamp_right {b} false v e = move_call v.sound (done_right (valid_state v) lamp _ (plain_done b.state _ (record { state = b.state; answer = Dark }) tt (λ z. refl) (rw e) v.sound.state))
