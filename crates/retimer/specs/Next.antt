-- The next action, by the waits at which transitions are enabled.
use Rattle.std.specs.Prelude.{◌≡◌, true, List, ℕ, ◌+◌, ◌≤◌, ◌<◌, length, get_or}
use Rattle.enforcement.specs.Automaton.{Bytes, Transition, transition_at}
use Rattle.enforcement.specs.Loading.{Fits}
use Rattle.enforcement.specs.TimedWord.{Configuration, fire}
use Rattle.enforcement.specs.Model.{compile}
use Rattle.retimer.specs.Readings.{Valuation}
use Rattle.retimer.specs.Live.{LiveTable}
use Rattle.retimer.specs.Waits.{first_wait, end_wait, along}

-- A transition is for the action c, and there is a wait from its first to below its end, from the readings r on: one that fits is enabled there (`interval`).
abbrev pub Opens : ℕ → List ℕ → Transition → Type 0
Opens c r t = (t.action ≡ c) × (first_wait t (get_or r 0 0) (get_or r 1 0) < end_wait t (get_or r 0 0) (get_or r 1 0))

-- At a wait from e on at which it is enabled, a transition leads from the readings x and y to a configuration of which, with the wait, G holds.
-- Where it leads does not depend on the location that is left: 0 stands for any.
pub record Leads (G : ℕ → Configuration → Type 0) (x y e : ℕ) (t : Transition) : Type 0 where
  pub wait : ℕ
  pub reached : e ≤ wait
  pub opened : first_wait t x y ≤ wait
  pub open_still : wait < end_wait t x y
  pub good : G wait (fire t (along x y 0 wait))

-- The same for a transition that is for the action c.
abbrev pub LeadsFor : ℕ → (ℕ → Configuration → Type 0) → ℕ → ℕ → ℕ → Transition → Type 0
LeadsFor c G x y e t = (t.action ≡ c) × Leads G x y e t

-- It leads to a live configuration.
abbrev pub LeadsLive : Bytes → List ℕ → Transition → Type 0
LeadsLive s r t = Leads (λ (u : ℕ) (q : Configuration). (compile s).live q ≡ true) (get_or r 0 0) (get_or r 1 0) 0 t

-- What is asked for the transition at p.
pub record LeadsAsked (s : Bytes) (live : List ℕ) (p : ℕ) (r : List ℕ) : Type 0 where
  pub table : LiveTable s live
  pub inside : p + 7 ≤ length s
  pub fits : Fits s (transition_at s p)
  pub valuation : Valuation s r
