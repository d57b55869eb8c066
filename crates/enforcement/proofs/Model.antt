-- The model of an automaton's monitor is right, whatever the calls.
use mathlib.Core.Path.{◌≡◌, refl}
use mathlib.Core.Bool.{Bool, true, false}
use mathlib.Core.List.{List, [], ◌∷◌, ◌++◌}
use mathlib.Core.Logic.{◌↔◌}
use Prim.Native.Nat.{ℕ}
use native.Mathlib.Omega.{arith}
use Rattle.enforcement.specs.Automaton.{Automaton}
use Rattle.enforcement.specs.TimedWord.{origin}
use Rattle.enforcement.specs.Loading.{Bounded}
use Rattle.enforcement.specs.History.{History, word_of, fresh, Call, Dark, Schedulable}
use Rattle.enforcement.specs.Model.{Compiled, compile}
use Rattle.enforcement.specs.Monitor.{Monitor, fresh_monitor, lamp_lit, answer, replay}
use Rattle.enforcement.specs.Demands.{StandsFor, Demand2, calls}
use Rattle.enforcement.proofs.Compilation.{compiled}
use Rattle.enforcement.proofs.Tests.{true_false}
use Rattle.enforcement.proofs.Decision.{correctable}
use Rattle.enforcement.proofs.Lamp.{lamp_right}
use Rattle.enforcement.proofs.Simulation
use Rattle.enforcement.proofs.Simulation.{Follows}
use Rattle.enforcement.proofs.Progress.{Decides, history_uncorrected, fresh_uncorrected, schedulable_dark, dark_schedulable}

-- A longer list of calls goes on from the monitor that the first calls left.
pub replay_append : (m : Compiled) (ks more : List Call) (b : Monitor) → (replay m b (ks ++ more)).monitor ≡ (replay m (replay m b ks).monitor more).monitor
unfolding replay
replay_append m [] more b = refl
replay_append m (k ∷ ks) more b = replay_append m ks more (answer m b k).monitor

-- What the lamp of a monitor that stands for a history shows.
module _ {𝒜 : Automaton} {ℋ : History} {b : Monitor} (s : StandsFor 𝒜 b ℋ) where
  pub lit_shows : b.lit ≡ true → Dark 𝒜 ℋ → ⊥
  lit_shows e g = true_false e (s.lamp_is.1 g)

  pub not_dark_lit : (Dark 𝒜 ℋ → ⊥) → b.lit ≡ true
  not_dark_lit f = go b.lit refl
    where
      go : (u : Bool) → b.lit ≡ u → u ≡ true
      go true e = refl
      go false e = absurd (f (s.lamp_is.0 e))

module _ (𝒜 : Automaton) (bounded : Bounded 𝒜.bytes) where
  pub fresh_stands : StandsFor 𝒜 (fresh_monitor 𝒜) (fresh 𝒜)
  unfolding lamp_lit
  fresh_stands = record {
    date_is = refl;
    pending_is = refl;
    schedule_is = refl;
    played_fits = omega arith;
    exact = origin 𝒜;
    reaches = (refl, refl);
    configuration_is = refl;
    numbered_is = refl;
    lamp_is = lamp_right 𝒜 bounded (compile 𝒜.bytes) (compiled 𝒜.bytes bounded) [] 𝒜.loaded (origin 𝒜) (refl, refl) 𝒜.loaded [];
  }

  -- On a monitor that stands for a history, a call answers as the history.
  pub answers : (ℋ : History) (b : Monitor) → StandsFor 𝒜 b ℋ → (k : Call) → Demand2 𝒜 ℋ k (answer (compile 𝒜.bytes) b k)
  answers = Simulation.answer_right 𝒜 bounded (compile 𝒜.bytes) (compiled 𝒜.bytes bounded)

  -- So does a list of calls.
  pub follows : (ks : List Call) (ℋ : History) (b : Monitor) → StandsFor 𝒜 b ℋ → Follows 𝒜 ℋ ks (replay (compile 𝒜.bytes) b ks)
  follows = Simulation.replay_right 𝒜 bounded (compile 𝒜.bytes) (compiled 𝒜.bytes bounded)

  -- For every list of calls from a fresh monitor: the outcomes are the history's, and the monitor stands for it.
  pub right : (ks : List Call) → Follows 𝒜 (fresh 𝒜) ks (calls 𝒜 ks)
  right ks = follows ks (fresh 𝒜) (fresh_monitor 𝒜) fresh_stands

  -- The lamp of a monitor that stands for a history is the one by the rule.
  pub lamp_rule : (ℋ : History) (b : Monitor) → StandsFor 𝒜 b ℋ → b.lit ≡ lamp_lit (compile 𝒜.bytes) b
  lamp_rule = Simulation.lamp_rule 𝒜 bounded (compile 𝒜.bytes) (compiled 𝒜.bytes bounded)

  decides : (ℋ : History) (b : Monitor) → StandsFor 𝒜 b ℋ → (t : ℕ) → Decides 𝒜 (word_of ℋ.scheduled) t
  unfolding Decides
  decides ℋ b s t cs n = correctable 𝒜 bounded (compile 𝒜.bytes) (compiled 𝒜.bytes bounded) (word_of ℋ.scheduled) b.last s.exact s.reaches t cs n

  -- After a list of calls, the lamp rule says dark exactly when one more action can be scheduled.
  pub dark_is : (ks : List Call) → Dark 𝒜 (right ks).history ↔ Schedulable 𝒜 (right ks).history
  dark_is ks =
      let z = right ks in (
        dark_schedulable 𝒜 z.history (decides z.history (calls 𝒜 ks).monitor z.stands z.history.date)
            (history_uncorrected 𝒜 (fresh 𝒜) z.history ks (calls 𝒜 ks).outcomes z.recorded (fresh_uncorrected 𝒜)),
        schedulable_dark 𝒜 z.history,
      )
