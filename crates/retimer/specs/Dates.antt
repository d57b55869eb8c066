-- The dates as they are read off: what playing an action now comes to, and what was written.
use Rattle.std.specs.Prelude.{◌≡◌, Option, Some, None, IfSome, List, ◌++◌, ℕ, ◌+◌, ◌*◌, ◌≤◌, length, get_or, drop, take}
use Rattle.std.proofs.Math.Option.{some}
use Rattle.enforcement.specs.Limits.{max_count, max_date}
use Rattle.enforcement.specs.Automaton.{Bytes}
use Rattle.enforcement.specs.TimedWord.{Configuration}
use Rattle.enforcement.specs.Model.{top, Prospect, ticks, after_step, prospect, dates, compile}
use Rattle.enforcement.specs.Monitor.{walk}
use Rattle.retimer.specs.declared.optimum.Reached.{Reached}
use Rattle.retimer.specs.declared.optimum.Ahead.{Ahead}
use Rattle.retimer.specs.Readings.{located, Standing}
use Rattle.retimer.specs.Costs.{never, cost, Ground}

-- The prospect of the actions from k on.
abbrev pub left_at : Bytes → List ℕ → ℕ → Configuration → Prospect
left_at s cs k p = prospect (compile s) (drop k cs) p

-- The prospect where the action k is played now.
abbrev pub played_now : Bytes → List ℕ → ℕ → Configuration → Prospect
played_now s cs k p = after_step ((compile s).step (get_or cs k 0) p) (prospect (compile s) (drop (k + 1) cs))

-- The cost ahead; never where there is nothing ahead.
abbrev pub cost_ahead : Option Ahead → ℕ
cost_ahead (Some v) = v.cost
cost_ahead None = never

-- The least ticks where the action k is played now and, where it can be, the configuration that it leads to.
pub record AheadRight (s : Bytes) (cs : List ℕ) (k l : ℕ) (r first second : List ℕ) (o : Option Ahead) : Type 0 where
  pub value_is : cost_ahead o ≡ cost (played_now s cs k (located l r))
  pub leads : IfSome o (λ v. (compile s).step (get_or cs k 0) (located l r) ≡ some (located v.location v.readings))
  pub standing : IfSome o (λ v. Standing s v.location v.readings)
  pub ground : Ground s cs first second

-- A state of the reading of dates: k actions are played by date t, and what is left takes v ticks.
pub record Dating (s : Bytes) (cs : List ℕ) (k l : ℕ) (r : List ℕ) (t v : ℕ) (first second out : List ℕ) : Type 0 where
  pub ground : Ground s cs first second
  pub played : k ≤ length cs
  pub standing : Standing s l r
  pub least : left_at s cs k (located l r) ≡ ticks v
  pub early : t + v ≤ max_date + (max_count + 1) * top
  pub room : length cs ≤ length out

-- The dates of the actions from k on stand in out behind those before, the rest of it is as before, and the configuration after them is reached.
pub record Written (s : Bytes) (cs : List ℕ) (k l : ℕ) (r : List ℕ) (t : ℕ) (before out : List ℕ) (q : Reached) : Type 0 where
  pub dates_are : take (length cs) out ≡ take k before ++ dates (compile s) (drop k cs) (located l r) t
  pub rest_kept : drop (length cs) out ≡ drop (length cs) before
  pub reached : located q.location q.readings ≡ walk (compile s).step (drop k cs) (dates (compile s) (drop k cs) (located l r) t) t (located l r)
  pub standing : Standing s q.location q.readings
