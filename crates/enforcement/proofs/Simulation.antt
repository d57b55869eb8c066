-- The model of a monitor answers as the history, call by call.
use mathlib.Core.Path.{◌≡◌, refl, ap, sym, ◌∙◌, subst, subst⁻¹}
use mathlib.Core.Bool.{Bool, true, false, cond}
use mathlib.Core.List.{List, [], ◌∷◌, ◌++◌}
use mathlib.Core.Logic.{◌↔◌}
use Prim.Native.Nat.{ℕ, suc, ◌+◌, ◌-◌, ◌≤◌, max}
use native.Mathlib.Omega.{arith}
use lib.Dec.{leb, ltb}
use lib.ListN.{length, drop, length-append}
use lib.Seq.{drop-append-le}
use borrow.Author.Tests.{leb-true, leb-false, ltb-true, ltb-false}
use Rattle.enforcement.specs.Limits.{max_count, max_date, max_numbered}
use Rattle.enforcement.specs.Automaton.{Automaton}
use Rattle.enforcement.specs.TimedWord.{Configuration, Event, last_of}
use Rattle.enforcement.specs.Reason.{i_7, i_8, s_1, s_2, s_3, s_4, s_5}
use Rattle.enforcement.specs.Loading.{Bounded}
use Rattle.enforcement.specs.History.{Request, Slot, actions_of, word_of, place, History, schedule, free_slots, Call, offer, collect, lamp, Outcome, scheduled, nothing, lit, dark, refused, numbered_next, joined, Passes, Chosen, Uncorrectable, IsOpen, after_schedule, after_hold, after_drop, after_date, after_play, Dark, Answers, unknown, late, past, no_number, too_late, no_place, full, late_collect, past_collect, plays, too_early, empty, is_dark, is_lit_lamp, HistoryOf, end, call}
use Rattle.enforcement.specs.Model.{Prospect, ticks, extensible, dead, Compiled, prospect, dates, advance, saturated, has_one_clock}
use Rattle.enforcement.specs.Monitor.{Monitor, is_lit, lamp_lit, with_lamp, dated, placed, kept, decided, checked, offered, taken, oldest, picked, collected, answer, Replayed, replay}
use Rattle.enforcement.specs.Demands.{Reaches, StandsFor, Demand2}
use Rattle.enforcement.proofs.Slots.{drop_next, actions_length, word_append, word_place}
use Rattle.enforcement.proofs.Runs.{NonEmpty}
use Rattle.enforcement.proofs.Corrections.{best_least}
use Rattle.enforcement.proofs.Compilation.{CompiledFrom}
use Rattle.enforcement.proofs.Decision
use Rattle.enforcement.proofs.Decision.{standing_at}
use Rattle.enforcement.proofs.Tests.{true_false}
use Rattle.enforcement.proofs.Lamp.{lamp_right}

-- The monitor that stands for a history, where everything ever scheduled reaches the date last and the configuration q, with the lamp x.
abbrev pub monitor_of : Automaton → History → ℕ → Configuration → Bool → Monitor
monitor_of 𝒜 ℋ last q x = record { date = ℋ.date; pending = ℋ.pending; schedule = schedule ℋ; configuration = saturated (has_one_clock 𝒜.bytes) q; last = last; numbered = ℋ.numbered; lit = x }

pub joined_non_empty : (rs : List Request) (r : Request) → NonEmpty (actions_of (rs ++ (r ∷ [])))
joined_non_empty [] r = tt
joined_non_empty (q ∷ rs) r = tt

module _ (𝒜 : Automaton) (bounded : Bounded 𝒜.bytes) (m : Compiled) (mine : CompiledFrom 𝒜.bytes m) (ℋ : History) (played_fits : ℋ.played ≤ length ℋ.scheduled) (last : ℕ) (q : Configuration) (reaches : Reaches 𝒜 (word_of ℋ.scheduled) last q) (shines : Bool) (lamp_is : (shines ≡ false) ↔ Dark 𝒜 ℋ) where
  abbrev monitor : Monitor
  monitor = monitor_of 𝒜 ℋ last q shines

  -- Nothing moves.
  stays : (k : Call) (o : Outcome) → Answers 𝒜 ℋ k o ℋ → Demand2 𝒜 ℋ k (record { outcome = o; monitor = monitor })
  stays k o h = record {
    history = ℋ;
    answers = h;
    stands = record { date_is = refl; pending_is = refl; schedule_is = refl; played_fits = played_fits; exact = q; reaches = reaches; configuration_is = refl; numbered_is = refl; lamp_is = lamp_is };
  }

  -- A history with nothing more scheduled, and the monitor that stands for it.
  stands : (t : ℕ) (rs : List Request) (n k : ℕ) (ss : List Slot) → ss ≡ drop n ℋ.scheduled → n ≤ length ℋ.scheduled
      → StandsFor 𝒜 (with_lamp m (record { date = t; pending = rs; schedule = ss; configuration = monitor.configuration; last = last; numbered = k; lit = shines })) (record { date = t; scheduled = ℋ.scheduled; pending = rs; played = n; numbered = k })
  unfolding lamp_lit
  stands t rs n k ss e h = record {
    date_is = refl;
    pending_is = refl;
    schedule_is = e;
    played_fits = h;
    exact = q;
    reaches = reaches;
    configuration_is = refl;
    numbered_is = refl;
    lamp_is = lamp_right 𝒜 bounded m mine (word_of ℋ.scheduled) last q reaches t (actions_of rs);
  }

  -- Only the date moves.
  moves : (k : Call) (o : Outcome) (t : ℕ) → Answers 𝒜 ℋ k o (after_date ℋ t) → Demand2 𝒜 ℋ k (record { outcome = o; monitor = dated m monitor t ℋ.numbered })
  moves k o t h = record { history = after_date ℋ t; answers = h; stands = stands t ℋ.pending ℋ.played ℋ.numbered (schedule ℋ) refl played_fits }

  -- ---- Offers

  module _ (c t : ℕ) where
    abbrev word : List Event
    word = word_of ℋ.scheduled

    abbrev cs : List ℕ
    cs = actions_of (joined ℋ c t)

    abbrev earliest : ℕ
    earliest = max t last

    abbrev standing : Configuration
    standing = standing_at 𝒜 last q t

    abbrev ds : List ℕ
    ds = dates m cs standing earliest

    non_empty : NonEmpty cs
    non_empty = joined_non_empty ℋ.pending (numbered_next ℋ c t)

    place_right : Passes 𝒜 ℋ c t → (n : ℕ) → prospect m cs standing ≡ ticks n → (u v : Bool) → ltb max_date (earliest + n) ≡ u → ltb (free_slots ℋ) (length (joined ℋ c t)) ≡ v
        → Demand2 𝒜 ℋ (offer c t) (placed m monitor c t ds (earliest + n) u v)
    unfolding placed lamp_lit
    place_right p n e u v x y = go u v x y (Decision.best 𝒜 bounded m mine word last q reaches t cs non_empty n e)
      where
        go : (u v : Bool) → ltb max_date (earliest + n) ≡ u → ltb (free_slots ℋ) (length (joined ℋ c t)) ≡ v → Chosen 𝒜 ℋ c t ds × (last_of 0 ds ≡ earliest + n)
            → Demand2 𝒜 ℋ (offer c t) (placed m monitor c t ds (earliest + n) u v)
        go true v x y be =
            stays (offer c t) (refused s_2) (too_late p be.0.correction (λ es h. omega (arith, be.1, best_least be.0 es h, ltb-true max_date (earliest + n) x)))
        go false true x y be =
            stays (offer c t) (refused s_3)
            (no_place p be.0 (omega (arith, be.1, ltb-false max_date (earliest + n) x))
            (omega (arith, be.0.correction.timing.each, actions_length (joined ℋ c t), ltb-true (free_slots ℋ) (length (joined ℋ c t)) y)))
        go false false x y be =
            let la = Decision.lands 𝒜 bounded m mine word last q reaches t cs non_empty ds (earliest + n) be.0.correction be.1 in
            let reaches-on : Reaches 𝒜 (word_of (ℋ.scheduled ++ place (joined ℋ c t) ds)) (earliest + n) la.0 =
            subst⁻¹ (λ (w : List Event). Reaches 𝒜 w (earliest + n) la.0) (word_append ℋ.scheduled (place (joined ℋ c t) ds) ∙ ap (λ (v : List Event). word ++ v) (word_place (joined ℋ c t) ds)) la.1 in
            record {
              history = after_schedule ℋ c t ds;
              answers = subst (λ (l : ℕ). Answers 𝒜 ℋ (offer c t) (scheduled (length ds) l) (after_schedule ℋ c t ds)) be.1
                  (Answers.schedules p be.0 (omega (arith, be.1, ltb-false max_date (earliest + n) x))
                  (omega (arith, be.0.correction.timing.each, actions_length (joined ℋ c t), ltb-false (free_slots ℋ) (length (joined ℋ c t)) y)));
              stands = record {
                date_is = refl;
                pending_is = refl;
                schedule_is = sym (drop-append-le ℋ.played ℋ.scheduled (place (joined ℋ c t) ds) played_fits);
                played_fits = omega (arith, length-append ℋ.scheduled (place (joined ℋ c t) ds));
                exact = la.0;
                reaches = reaches-on;
                configuration_is = la.2;
                numbered_is = refl;
                lamp_is = subst⁻¹ (λ (p : Configuration). (is_lit m (advance (max t (earliest + n) - (earliest + n)) p) [] ≡ false) ↔ Dark 𝒜 (after_schedule ℋ c t ds)) la.2
                    (lamp_right 𝒜 bounded m mine (word_of (ℋ.scheduled ++ place (joined ℋ c t) ds)) (earliest + n) la.0 reaches-on t []);
              };
            }

    decide_right : Passes 𝒜 ℋ c t → (a : Prospect) → prospect m cs standing ≡ a → Demand2 𝒜 ℋ (offer c t) (decided m monitor c t (dates m cs) a)
    unfolding decided kept
    decide_right p (ticks n) e = place_right p n e (ltb max_date (earliest + n)) (ltb (free_slots ℋ) (length (joined ℋ c t))) refl refl
    decide_right p extensible e = go (leb max_count (length ℋ.pending)) refl
        (Decision.none_extensible 𝒜 bounded m mine word last q reaches t cs non_empty e) (Decision.extensible_open 𝒜 bounded m mine word last q reaches t cs non_empty e)
      where
        go : (u : Bool) → leb max_count (length ℋ.pending) ≡ u → Uncorrectable 𝒜 ℋ c t → IsOpen 𝒜 ℋ c t → Demand2 𝒜 ℋ (offer c t) (kept m monitor c t u)
        go true x un op = stays (offer c t) (refused s_4) (full p un op (leb-true max_count (length ℋ.pending) x))
        go false x un op = record { history = after_hold ℋ c t; answers = Answers.holds p un op (leb-false max_count (length ℋ.pending) x); stands = stands t (joined ℋ c t) ℋ.played (suc ℋ.numbered) (schedule ℋ) refl played_fits }
    decide_right p dead e = record {
      history = after_drop ℋ t;
      answers = Answers.drops p (Decision.none_dead 𝒜 bounded m mine word last q reaches t cs non_empty e) (Decision.dead_shut 𝒜 bounded m mine word last q reaches t cs non_empty e);
      stands = stands t ℋ.pending ℋ.played (suc ℋ.numbered) (schedule ℋ) refl played_fits;
    }

    check_right : (u v w x : Bool) → ltb c m.known ≡ u → ltb max_date t ≡ v → ltb t ℋ.date ≡ w → leb max_numbered ℋ.numbered ≡ x → Demand2 𝒜 ℋ (offer c t) (checked m monitor c t u v w x)
    unfolding checked
    check_right false v w x e f g h = stays (offer c t) (refused i_7) (unknown (omega (arith, mine.known_is, ltb-false c m.known e)))
    check_right true true w x e f g h = stays (offer c t) (refused i_8) (late (omega (arith, mine.known_is, ltb-true c m.known e)) (ltb-true max_date t f))
    check_right true false true x e f g h = stays (offer c t) (refused s_1) (past (omega (arith, mine.known_is, ltb-true c m.known e)) (ltb-false max_date t f) (ltb-true t ℋ.date g))
    check_right true false false true e f g h =
        stays (offer c t) (refused s_5) (no_number (omega (arith, mine.known_is, ltb-true c m.known e)) (ltb-false max_date t f) (ltb-false t ℋ.date g) (leb-true max_numbered ℋ.numbered h))
    check_right true false false false e f g h =
        decide_right (record { known = omega (arith, mine.known_is, ltb-true c m.known e); early = ltb-false max_date t f; current = ltb-false t ℋ.date g; countable = leb-false max_numbered ℋ.numbered h }) (prospect m cs standing) refl

  -- ---- Collects

  module _ (t : ℕ) where
    take_right : t ≤ max_date → ℋ.date ≤ t → (e : Slot) (rest : List Slot) → schedule ℋ ≡ e ∷ rest → (u : Bool) → leb e.date t ≡ u → Demand2 𝒜 ℋ (collect t) (taken m monitor t e rest u)
    unfolding taken
    take_right h k e rest x true y =
        let d = drop_next ℋ.played ℋ.scheduled e rest x in
        record {
          history = after_play ℋ t;
          answers = plays h k x (leb-true e.date t y);
          stands = stands t ℋ.pending (suc ℋ.played) ℋ.numbered rest (sym d.0) d.1;
        }
    take_right h k e rest x false y = moves (collect t) nothing t (too_early h k x (leb-false e.date t y))

    oldest_right : t ≤ max_date → ℋ.date ≤ t → (l : List Slot) → schedule ℋ ≡ l → Demand2 𝒜 ℋ (collect t) (oldest m monitor t l)
    unfolding oldest
    oldest_right h k [] x = moves (collect t) nothing t (empty h k x)
    oldest_right h k (e ∷ rest) x = take_right h k e rest x (leb e.date t) refl

    pick_right : (u v : Bool) → ltb max_date t ≡ u → ltb t ℋ.date ≡ v → Demand2 𝒜 ℋ (collect t) (picked m monitor t u v)
    unfolding picked
    pick_right true v x y = stays (collect t) (refused i_8) (late_collect (ltb-true max_date t x))
    pick_right false true x y = stays (collect t) (refused s_1) (past_collect (ltb-false max_date t x) (ltb-true t ℋ.date y))
    pick_right false false x y = oldest_right (ltb-false max_date t x) (ltb-false t ℋ.date y) (schedule ℋ) refl

  -- ---- The lamp

  lamp_answers : (x : Bool) → ((x ≡ false) ↔ Dark 𝒜 ℋ) → Demand2 𝒜 ℋ lamp (record { outcome = cond x lit dark; monitor = monitor })
  lamp_answers true e = stays lamp lit (is_lit_lamp (λ g. true_false refl (e.1 g)))
  lamp_answers false e = stays lamp dark (is_dark (e.0 refl))

  answer_of : (k : Call) → Demand2 𝒜 ℋ k (answer m monitor k)
  unfolding answer offered collected
  answer_of (offer c t) = check_right c t (ltb c m.known) (ltb max_date t) (ltb t ℋ.date) (leb max_numbered ℋ.numbered) refl refl refl refl
  answer_of (collect t) = pick_right t (ltb max_date t) (ltb t ℋ.date) refl refl
  answer_of lamp = lamp_answers shines lamp_is

-- ---- Any monitor that stands for a history

same_test : {P : Type 0} (x y : Bool) → ((x ≡ false) ↔ P) → ((y ≡ false) ↔ P) → x ≡ y
same_test true true f g = refl
same_test true false f g = sym (true_false refl (f.1 (g.0 refl)))
same_test false true f g = true_false refl (g.1 (f.0 refl))
same_test false false f g = refl

stands_is : (𝒜 : Automaton) (ℋ : History) (b : Monitor) (s : StandsFor 𝒜 b ℋ) → b ≡ monitor_of 𝒜 ℋ b.last s.exact b.lit
stands_is 𝒜 ℋ b s = λ i. record { date = s.date_is i; pending = s.pending_is i; schedule = s.schedule_is i; configuration = s.configuration_is i; last = b.last; numbered = s.numbered_is i; lit = b.lit }

-- The history of a list of calls on a monitor, and that the monitor after them stands for it.
pub record Follows (𝒜 : Automaton) (ℋ : History) (ks : List Call) (z : Replayed) : Type 0 where
  pub history : History
  pub recorded : HistoryOf 𝒜 ℋ ks z.outcomes history
  pub stands : StandsFor 𝒜 z.monitor history

module _ (𝒜 : Automaton) (bounded : Bounded 𝒜.bytes) (m : Compiled) (mine : CompiledFrom 𝒜.bytes m) where
  pub answer_right : (ℋ : History) (b : Monitor) → StandsFor 𝒜 b ℋ → (k : Call) → Demand2 𝒜 ℋ k (answer m b k)
  answer_right ℋ b s k =
      subst⁻¹ (λ (z : Monitor). Demand2 𝒜 ℋ k (answer m z k)) (stands_is 𝒜 ℋ b s) (answer_of 𝒜 bounded m mine ℋ s.played_fits b.last s.exact s.reaches b.lit s.lamp_is k)

  -- The lamp of a monitor that stands for a history is the one by the rule.
  pub lamp_rule : (ℋ : History) (b : Monitor) → StandsFor 𝒜 b ℋ → b.lit ≡ lamp_lit m b
  unfolding lamp_lit
  lamp_rule ℋ b s =
      same_test b.lit (lamp_lit m b) s.lamp_is
      (subst⁻¹ (λ (z : Monitor). (lamp_lit m z ≡ false) ↔ Dark 𝒜 ℋ) (stands_is 𝒜 ℋ b s) (lamp_right 𝒜 bounded m mine (word_of ℋ.scheduled) b.last s.exact s.reaches ℋ.date (actions_of ℋ.pending)))

  pub replay_right : (ks : List Call) (ℋ : History) (b : Monitor) → StandsFor 𝒜 b ℋ → Follows 𝒜 ℋ ks (replay m b ks)
  unfolding replay
  replay_right [] ℋ b s = record { history = ℋ; recorded = end; stands = s }
  replay_right (k ∷ ks) ℋ b s =
      let r = answer_right ℋ b s k in
      let z = replay_right ks r.history (answer m b k).monitor r.stands in
      record { history = z.history; recorded = call r.answers z.recorded; stands = z.stands }
