-- Demand 3 of the calls on boxes, from what each call promises and demand 3 of the model.
-- Assumes nothing.
use mathlib.Core.Path.{◌≡◌, refl, ap, ap₂, sym, ◌∙◌, subst, subst⁻¹}
use mathlib.Core.Bool.{Bool, true, false, cond}
use mathlib.Core.List.{List, [], ◌∷◌, ◌++◌}
use mathlib.Core.Logic.{◌↔◌}
use Prim.Native.Nat.{ℕ}
use Rattle.enforcement.specs.Automaton.{Bytes, automaton}
use Rattle.enforcement.specs.Loading.{WellFormed}
use Rattle.enforcement.specs.History.{History, fresh, Call, offer, lamp, Outcome, scheduled, held, dropped, played, nothing, lit, dark, refused, HistoryOf, Schedulable}
use Rattle.enforcement.specs.Model.{compile}
use Rattle.enforcement.specs.Monitor.{fresh_monitor, answer, replay}
use Rattle.enforcement.specs.Monitor as model
use Rattle.enforcement.specs.Demands.{StandsFor, Demand2, ModelDemand3, ModelDemand3All, Admitted, calls, lamp_after}
use Rattle.enforcement.proofs.Loading.{bounded}
use Rattle.enforcement.proofs.Model.{replay_append}
use Rattle.enforcement.proofs.Promises.{model_demand_3}
use Rattle.retimer.specs.declared.limits.Monitor.{Monitor}
use Rattle.retimer.specs.declared.state.Answer.{Answer}
use Rattle.retimer.specs.declared.state.Answer.TheVariants.{Scheduled, Held, Dropped, Played, Nothing, Lit, Dark, Refused}
use Rattle.retimer.specs.declared.monitor.Answered.{Answered}
use Rattle.retimer.specs.View.{bytes_of, view, view_of, Valid}
use Rattle.retimer.specs.Calls.{outcome_of, answered_of, CallRight, FreshRight}
use Rattle.retimer.specs.Demand3.{Made, end, call, outcomes_of, CodeDemand3}
use Rattle.retimer.proofs.CallLaws.{view_lit}

-- ---- The calls on boxes are the model's

-- What a list of calls made of a box of the sheet s comes to.
record Follows (s : Bytes) (b : Monitor) (ks : List Call) (xs : List Answer) (b' : Monitor) : Type 0 where
  monitor_is : view_of b' ≡ (replay (compile s) (view_of b) ks).monitor
  outcomes_are : outcomes_of xs ≡ (replay (compile s) (view_of b) ks).outcomes
  sheet_is : bytes_of b' ≡ s
  valid : Valid b'

made_follows : {b b' : Monitor} {ks : List Call} {xs : List Answer} (s : Bytes) → bytes_of b ≡ s → Valid b → Made b ks xs b' → Follows s b ks xs b'
unfolding replay
made_follows s e v end = record { monitor_is = refl; outcomes_are = refl; sheet_is = e; valid = v }
made_follows {b} {b'} s e v (call {k = k} {ks = ks} {xs = xs} r c m) =
    let f : Follows s r.monitor ks xs b' = made_follows s (ap bytes_of c.kept ∙ e) c.valid m in
    let w : answered_of r ≡ answer (compile s) (view_of b) k = subst (λ (x : Bytes). answered_of r ≡ answer (compile x) (view_of b) k) e c.is in
    let z : view_of r.monitor ≡ (answer (compile s) (view_of b) k).monitor = ap (λ (x : model.Answered). x.monitor) w in
    record {
      monitor_is = f.monitor_is ∙ ap (λ (x : model.Monitor). (replay (compile s) x ks).monitor) z;
      outcomes_are = ap₂ (λ (o : Outcome) (os : List Outcome). o ∷ os) (ap (λ (x : model.Answered). x.outcome) w) (f.outcomes_are ∙ ap (λ (x : model.Monitor). (replay (compile s) x ks).outcomes) z);
      sheet_is = f.sheet_is;
      valid = f.valid;
    }

-- One more call at the end.
pub made_one_more : {b b' : Monitor} {ks : List Call} {xs : List Answer} {k : Call} (r : Answered) → CallRight b' k r → Made b ks xs b' → Made b (ks ++ (k ∷ [])) (xs ++ (r.answer ∷ [])) r.monitor
made_one_more r c end = call r c end
made_one_more r c (call q d m) = call q d (made_one_more r c m)

pub made_valid : {b b' : Monitor} {ks : List Call} {xs : List Answer} → Valid b → Made b ks xs b' → Valid b'
made_valid v end = v
made_valid v (call r c m) = made_valid c.valid m

-- For every loading date and history that a box stands for, calls on it answer as that history goes on, and the box stands for it after them.
pub rule_follows : {b b' : Monitor} {ks : List Call} {xs : List Answer} (s : Bytes) (d : ℕ) (h : History) → bytes_of b ≡ s → StandsFor (automaton s d) (view_of b) h → Made b ks xs b'
    → (h' : History) × HistoryOf (automaton s d) h ks (outcomes_of xs) h' × StandsFor (automaton s d) (view_of b') h'
rule_follows s d h e f end = (h, HistoryOf.end, f)
rule_follows {b} s d h e f (call {k = k} r c m) =
    let z : Demand2 (automaton s d) h k (answered_of r) = subst (λ (x : Bytes). StandsFor (automaton x d) (view_of b) h → Demand2 (automaton x d) h k (answered_of r)) e (c.rule d h) f in
    let y = rule_follows s d z.history (ap bytes_of c.kept ∙ e) z.stands m in
    (y.0, HistoryOf.call z.answers y.1, y.2)

-- ---- Which answer an outcome is of

-- The answer of an outcome; a where the outcome leaves out the count that "held" carries, or has a reason.
abbrev answer_for : Outcome → Answer → Answer
answer_for (scheduled n d) a = Scheduled n d
answer_for held a = a
answer_for dropped a = Dropped
answer_for (played c d n t) a = Played (record { request = record { action = c; number = n; offered = t }; date = d })
answer_for nothing a = Nothing
answer_for lit a = Lit
answer_for dark a = Dark
answer_for (refused q) a = a

-- An answer is determined by its outcome, save for the count that "held" carries and the reason.
determined : (a : Answer) → answer_for (outcome_of a) a ≡ a
determined (Scheduled n d) = refl
determined (Held n) = refl
determined Dropped = refl
determined (Played e) = refl
determined Nothing = refl
determined Lit = refl
determined Dark = refl
determined (Refused q) = refl

answer_of : (a : Answer) (o : Outcome) → outcome_of a ≡ o → a ≡ answer_for o a
answer_of a o e = sym (determined a) ∙ ap (λ (x : Outcome). answer_for x a) e

-- The answer to a lamp call.
told : (a : Answer) (x : Bool) → outcome_of a ≡ cond x lit dark → a ≡ cond x Lit Dark
told a true e = answer_of a lit e
told a false e = answer_of a dark e

lamp_told : (b : Monitor) (r : Answered) → CallRight b lamp r → r.answer ≡ cond b.state.lit Lit Dark
unfolding answer view
lamp_told b r c = told r.answer b.state.lit (ap (λ (w : model.Answered). w.outcome) c.is)

-- ---- Demand 3

module _ (s : Bytes) (d : ℕ) (b₀ : Monitor) (f : FreshRight s d b₀) (ks : List Call) (xs : List Answer) (b : Monitor) (m : Made b₀ ks xs b) where
  loads : WellFormed s
  loads = subst WellFormed f.sheet f.valid.sound.state.loads

  model_right : (ls : List Call) → ModelDemand3 (automaton s d) ls
  unfolding ModelDemand3All
  model_right = model_demand_3 (automaton s d) (bounded s loads)

  fresh_view : view_of b₀ ≡ fresh_monitor (automaton s d)
  fresh_view = subst (λ (x : Bytes). view_of b₀ ≡ fresh_monitor (automaton x d)) f.sheet f.is

  now : Follows s b₀ ks xs b
  now = made_follows s f.sheet f.valid m

  monitor_is : view_of b ≡ (calls (automaton s d) ks).monitor
  monitor_is = now.monitor_is ∙ ap (λ (x : model.Monitor). (replay (compile s) x ks).monitor) fresh_view

  outcomes_are : outcomes_of xs ≡ (calls (automaton s d) ks).outcomes
  outcomes_are = now.outcomes_are ∙ ap (λ (x : model.Monitor). (replay (compile s) x ks).outcomes) fresh_view

  -- The box after more calls.
  after_more : (more : List Call) (ys : List Answer) (b' : Monitor) → Made b more ys b' → (view_of b' ≡ (calls (automaton s d) (ks ++ more)).monitor) × (bytes_of b' ≡ s)
  after_more more ys b' n =
      let g : Follows s b more ys b' = made_follows s now.sheet_is now.valid n in
      (g.monitor_is ∙ ap (λ (x : model.Monitor). (replay (compile s) x more).monitor) monitor_is ∙ sym (replay_append (compile s) ks more (fresh_monitor (automaton s d))), g.sheet_is)

  lit_now : b.state.lit ≡ lamp_after (automaton s d) ks
  lit_now = view_lit b.state monitor_is

  all_dropped : b.state.lit ≡ true → (more : List Call) (ys : List Answer) (b' : Monitor) → Made b more ys b' → (c t : ℕ) → Admitted (automaton s d) (view_of b') c t → (q : Answered) → CallRight b' (offer c t) q → q.answer ≡ Dropped
  all_dropped e more ys b' n c t i q w =
      let g = after_more more ys b' n in
      answer_of q.answer dropped
      (ap (λ (x : model.Answered). x.outcome) w.is ∙ ap₂ (λ (x : Bytes) (v : model.Monitor). (answer (compile x) v (offer c t)).outcome) g.1 g.0
      ∙ (model_right ks).drops (sym lit_now ∙ e) more c t (subst (λ (v : model.Monitor). Admitted (automaton s d) v c t) g.0 i))

  pub code_demand_3 : CodeDemand3 s d ks xs b
  code_demand_3 = let z = model_right ks in record {
    history = z.history;
    recorded = subst⁻¹ (λ (os : List Outcome). HistoryOf (automaton s d) (fresh (automaton s d)) ks os z.history) outcomes_are z.recorded;
    only = λ os h r. ((z.only os h r).0 ∙ sym outcomes_are, (z.only os h r).1);
    stands = subst⁻¹ (λ (x : model.Monitor). StandsFor (automaton s d) x z.history) monitor_is z.stands;
    lit_is = subst⁻¹ (λ (x : Bool). (x ≡ true) ↔ (Schedulable (automaton s d) z.history → ⊥)) lit_now z.lit_is;
    dark_is = subst⁻¹ (λ (x : Bool). (x ≡ false) ↔ Schedulable (automaton s d) z.history) lit_now z.dark_is;
    rule_is = z.rule_is;
    answers_lamp = lamp_told b;
    stays_lit = λ e more ys b' n. view_lit b'.state (after_more more ys b' n).0 ∙ z.stays_lit (sym lit_now ∙ e) more;
    drops = all_dropped;
    sheet_is = now.sheet_is;
    valid = now.valid;
  }
