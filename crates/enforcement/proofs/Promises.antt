-- The promises of specs/Demands.antt.
use mathlib.Core.Path.{◌≡◌, refl, subst, subst⁻¹}
use mathlib.Core.Bool.{true}
use mathlib.Core.List.{List, ◌++◌}
use Prim.Native.Nat.{ℕ, ◌≤◌, ◌<◌}
use Rattle.enforcement.specs.Limits.{max_numbered}
use Rattle.enforcement.specs.Automaton.{Automaton, Bytes, automaton}
use Rattle.enforcement.specs.Loading.{Bounded, Loads}
use Rattle.enforcement.specs.History.{History, fresh, Call, offer, dropped, Dark}
use Rattle.enforcement.specs.Model.{compile}
use Rattle.enforcement.specs.Monitor.{Monitor, fresh_monitor, answer, replay}
use Rattle.enforcement.specs.Demands.{StandsFor, Demand2All, ModelDemand3All, calls, lamp_after, Admitted, Promised}
use Rattle.enforcement.proofs.Loading
use Rattle.enforcement.proofs.Constraints.{enforcement}
use Rattle.enforcement.proofs.Numbers.{numbers}
use Rattle.enforcement.proofs.Uniqueness.{one_history}
use Rattle.enforcement.proofs.Progress.{history_lit, lit_drops}
use Rattle.enforcement.proofs.Model

pub demand_2 : (𝒜 : Automaton) → Bounded 𝒜.bytes → Demand2All 𝒜
unfolding Demand2All
demand_2 𝒜 bounded ℋ b s k = Model.answers 𝒜 bounded ℋ b s k

module _ (𝒜 : Automaton) (bounded : Bounded 𝒜.bytes) where
  -- A history for which a monitor stands, and for which the lamp rule does not say dark.
  pub record Exhausted (b : Monitor) : Type 0 where
    pub history : History
    pub stands : StandsFor 𝒜 b history
    pub not_dark : Dark 𝒜 history → ⊥

  -- Where the lamp is lit after some calls, it is so after more.
  exhausted : (ks more : List Call) → lamp_after 𝒜 ks ≡ true → Exhausted (calls 𝒜 (ks ++ more)).monitor
  exhausted ks more e =
      let z = Model.right 𝒜 bounded ks in
      let y = Model.follows 𝒜 bounded more z.history (calls 𝒜 ks).monitor z.stands in
      subst⁻¹ Exhausted (Model.replay_append (compile 𝒜.bytes) ks more (fresh_monitor 𝒜))
      (record {
        history = y.history;
        stands = y.stands;
        not_dark = history_lit 𝒜 z.history y.history more (replay (compile 𝒜.bytes) (calls 𝒜 ks).monitor more).outcomes (Model.lit_shows z.stands e) y.recorded;
      })

  exhausted_lit : (b : Monitor) → Exhausted b → b.lit ≡ true
  exhausted_lit b x = Model.not_dark_lit x.stands x.not_dark

  pub exhausted_drops : (b : Monitor) → Exhausted b → (c t : ℕ) → Admitted 𝒜 b c t → (answer (compile 𝒜.bytes) b (offer c t)).outcome ≡ dropped
  exhausted_drops b x c t i =
      let r = Model.answers 𝒜 bounded x.history b x.stands (offer c t) in
      lit_drops 𝒜 x.history r.history c t (answer (compile 𝒜.bytes) b (offer c t)).outcome x.not_dark
      (record { known = i.known; early = i.early; current = subst (λ (d : ℕ). d ≤ t) x.stands.date_is i.current; countable = subst (λ (n : ℕ). n < max_numbered) x.stands.numbered_is i.countable }) r.answers

pub model_demand_3 : (𝒜 : Automaton) → Bounded 𝒜.bytes → ModelDemand3All 𝒜
unfolding ModelDemand3All answer
model_demand_3 𝒜 bounded ks =
    let z = Model.right 𝒜 bounded ks in
    let same = Model.dark_is 𝒜 bounded ks in
    record {
      history = z.history;
      recorded = z.recorded;
      only = λ os h r. one_history 𝒜 (fresh 𝒜) ks os (calls 𝒜 ks).outcomes h z.history r z.recorded;
      stands = z.stands;
      lit_is = (λ e g. Model.lit_shows z.stands e (same.1 g), λ f. Model.not_dark_lit z.stands (λ g. f (same.0 g)));
      dark_is = (λ e. same.0 (z.stands.lamp_is.0 e), λ g. z.stands.lamp_is.1 (same.1 g));
      rule_is = same;
      answers_lamp = refl;
      stays_lit = λ e more. exhausted_lit 𝒜 bounded (calls 𝒜 (ks ++ more)).monitor (exhausted 𝒜 bounded ks more e);
      drops = λ e more c t i. exhausted_drops 𝒜 bounded (calls 𝒜 (ks ++ more)).monitor (exhausted 𝒜 bounded ks more e) c t i;
    }

pub promised : (s : Bytes) (d : ℕ) → Loads s d → Promised s d
promised s d l =
    let b : Bounded s = Loading.bounded s (Loading.loads_formed s d l) in
    record { demand_2 = demand_2 (automaton s d) b; demand_3 = model_demand_3 (automaton s d) b; constraints = enforcement (automaton s d); numbers = numbers (automaton s d) }
