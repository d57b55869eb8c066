-- What is promised, statement by statement; each is proved in proofs/Promises.antt.
use Rattle.std.specs.Prelude.{◌≡◌, Bool, true, false, cond, ◌↔◌, List, ◌++◌, ℕ, ◌≤◌, ◌<◌, length}
use Rattle.enforcement.specs.Limits.{max_date, max_numbered}
use Rattle.enforcement.specs.Automaton.{Automaton, Bytes, automaton, actions}
use Rattle.enforcement.specs.TimedWord.{Configuration, Event, Run, step, origin}
use Rattle.enforcement.specs.History.{History, word_of, fresh, schedule, Call, offer, lamp, Outcome, dropped, lit, dark, Answers, HistoryOf, Schedulable, Dark}
use Rattle.enforcement.specs.Constraints.{Enforcement}
use Rattle.enforcement.specs.Numbers.{Numbers}
use Rattle.enforcement.specs.Model.{compile, saturated, has_one_clock}
use Rattle.enforcement.specs.Monitor.{Monitor, fresh_monitor, Answered, answer, Replayed, replay}

-- A timed word takes the automaton from its start to the date last and the configuration q.
abbrev pub Reaches : Automaton → List Event → ℕ → Configuration → Type 0
Reaches a w last q = Run (step a.bytes) (λ e r. (e ≡ last) × (r ≡ q)) a.loaded (origin a) w

-- The monitor stands for the history: the same date, pending actions and schedule, with their numbers and offered dates, as many offers numbered, the configuration and date that everything ever scheduled reaches, and a lamp that is dark exactly when document 01's
-- rule says so.
pub record StandsFor (a : Automaton) (b : Monitor) (h : History) : Type 0 where
  pub date_is : b.date ≡ h.date
  pub pending_is : b.pending ≡ h.pending
  pub schedule_is : b.schedule ≡ schedule h
  pub played_fits : h.played ≤ length h.scheduled
  pub exact : Configuration
  pub reaches : Reaches a (word_of h.scheduled) b.last exact
  pub configuration_is : b.configuration ≡ saturated (has_one_clock a.bytes) exact
  pub numbered_is : b.numbered ≡ h.numbered
  pub lamp_is : (b.lit ≡ false) ↔ Dark a h

-- ---- Demand 2: on a monitor that stands for a history, a call answers as the history, and gives a monitor that stands for the history after it.
pub record Demand2 (a : Automaton) (h : History) (k : Call) (r : Answered) : Type 0 where
  pub history : History
  pub answers : Answers a h k r.outcome history
  pub stands : StandsFor a r.monitor history

unfoldable pub Demand2All : Automaton → Type 0
Demand2All a = (h : History) (b : Monitor) → StandsFor a b h → (k : Call) → Demand2 a h k (answer (compile a.bytes) b k)

-- ---- Demand 3

-- A list of calls on a fresh monitor.
abbrev pub calls : Automaton → List Call → Replayed
calls a ks = replay (compile a.bytes) (fresh_monitor a) ks

-- The stored lamp after a list of calls.
abbrev pub lamp_after : Automaton → List Call → Bool
lamp_after a ks = (calls a ks).monitor.lit

-- An offer that a monitor does not refuse for its action or date (I-7, I-8 and S-1), nor because all numbers are given (S-5).
pub record Admitted (a : Automaton) (b : Monitor) (c t : ℕ) : Type 0 where
  pub known : c < actions a.bytes
  pub early : t ≤ max_date
  pub current : b.date ≤ t
  pub countable : b.numbered < max_numbered

-- For a list of calls from a fresh monitor of the model: the outcomes are the history's, which is the only one, and the monitor stands for it, with its
-- date, pending actions and schedule; its stored lamp is lit exactly when no run of further offers could get one more action scheduled, which is document 01's
-- rule, and a lamp call answers it; once lit, it is lit after every longer list, and there every offer that is not refused for its action or date, nor with S-5, is dropped.
pub record ModelDemand3 (a : Automaton) (ks : List Call) : Type 0 where
  pub history : History
  pub recorded : HistoryOf a (fresh a) ks (calls a ks).outcomes history
  pub only : (os : List Outcome) (h : History) → HistoryOf a (fresh a) ks os h → (os ≡ (calls a ks).outcomes) × (h ≡ history)
  pub stands : StandsFor a (calls a ks).monitor history
  pub lit_is : (lamp_after a ks ≡ true) ↔ (Schedulable a history → ⊥)
  pub dark_is : (lamp_after a ks ≡ false) ↔ Schedulable a history
  pub rule_is : Dark a history ↔ Schedulable a history
  pub answers_lamp : (answer (compile a.bytes) (calls a ks).monitor lamp).outcome ≡ cond (lamp_after a ks) lit dark
  pub stays_lit : lamp_after a ks ≡ true → (more : List Call) → lamp_after a (ks ++ more) ≡ true
  pub drops : lamp_after a ks ≡ true → (more : List Call) (c t : ℕ) → Admitted a (calls a (ks ++ more)).monitor c t → (answer (compile a.bytes) (calls a (ks ++ more)).monitor (offer c t)).outcome ≡ dropped

unfoldable pub ModelDemand3All : Automaton → Type 0
ModelDemand3All a = (ks : List Call) → ModelDemand3 a ks

-- ---- What is promised of every sheet and loading date that are accepted

pub record Promised (s : Bytes) (d : ℕ) : Type 0 where
  pub demand_2 : Demand2All (automaton s d)
  pub demand_3 : ModelDemand3All (automaton s d)
  pub constraints : Enforcement (automaton s d)
  pub numbers : Numbers (automaton s d)
