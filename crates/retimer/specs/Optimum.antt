-- What the search for the optimum promises.
use Rattle.std.specs.Prelude.{◌≡◌, List, ℕ, ◌+◌, ◌≤◌, length, take, drop}
use Rattle.enforcement.specs.Limits.{max_count, max_date}
use Rattle.enforcement.specs.Automaton.{Bytes}
use Rattle.enforcement.specs.Loading.{WellFormed}
use Rattle.enforcement.specs.Model.{ticks, compile, prospect, dates}
use Rattle.enforcement.specs.Monitor.{walk}
use Rattle.retimer.specs.declared.optimum.Planned.{Planned}
use Rattle.retimer.specs.Readings.{located, Standing}
use Rattle.retimer.specs.Live.{LiveTable}

-- What the search is given: a well-formed sheet, a list that has a correction and no more actions than a correction can, a configuration, a date, and room for the dates.
pub record Asked (s : Bytes) (cs : List ℕ) (l : ℕ) (r : List ℕ) (t : ℕ) (out : List ℕ) : Type 0 where
  pub loads : WellFormed s
  pub few : length cs ≤ max_count + 1
  pub standing : Standing s l r
  pub correctable : (n : ℕ) × (prospect (compile s) cs (located l r) ≡ ticks n)
  pub early : t ≤ max_date
  pub room : length cs ≤ length out

-- The least ticks of the actions; their dates stand in out, the rest of it is as before, and the configuration after them is reached.
pub record PlanRight (s : Bytes) (cs : List ℕ) (l : ℕ) (r : List ℕ) (t : ℕ) (before out : List ℕ) (v : Planned) : Type 0 where
  pub value_is : prospect (compile s) cs (located l r) ≡ ticks v.value
  pub dates_are : take (length cs) out ≡ dates (compile s) cs (located l r) t
  pub rest_kept : drop (length cs) out ≡ drop (length cs) before
  pub reached : located v.location v.readings ≡ walk (compile s).step cs (dates (compile s) cs (located l r) t) t (located l r)
  pub standing : Standing s v.location v.readings

-- What the lamp and the decision are given.
pub record LampAsked (s : Bytes) (live : List ℕ) (l : ℕ) (r : List ℕ) : Type 0 where
  pub loads : WellFormed s
  pub table : LiveTable s live
  pub standing : Standing s l r
