-- Demand 3 on code: one claim about a list of calls on boxes, made by any functions that keep the promises of the box's calls.
use Rattle.std.specs.Prelude.{◌≡◌, true, false, cond, List, [], ◌∷◌, map, ◌↔◌, ℕ}
use Rattle.std.proofs.Math.Option.{Option, some}
use Rattle.enforcement.specs.Automaton.{Bytes, automaton}
use Rattle.enforcement.specs.Loading.{Checked}
use Rattle.enforcement.specs.History.{History, fresh, Call, offer, lamp, Outcome, HistoryOf, Schedulable}
use Rattle.enforcement.specs.History as reference
use Rattle.enforcement.specs.Demands.{StandsFor, Admitted}
use Rattle.enforcement.specs.Shift.{shift_outcome, shift_monitor}
use Rattle.enforcement.specs.Widening.{scope_bound, ToldUpTo}
use Rattle.retimer.specs.declared.limits.Monitor.{Monitor}
use Rattle.retimer.specs.declared.state.Answer.{Answer}
use Rattle.retimer.specs.declared.state.Answer.TheVariants.{Dropped, Lit, Dark}
use Rattle.retimer.specs.declared.monitor.Answered.{Answered}
use Rattle.retimer.specs.declared.monitor.Loaded.{Loaded}
use Rattle.retimer.specs.Checked.{checked_of}
use Rattle.retimer.specs.View.{bytes_of, view_of, Valid}
use Rattle.retimer.specs.Calls.{outcome_of, CallRight}

-- A list of calls, each on the box that the one before handed back; their answers, and the last box.
pub data Made : Monitor → List Call → List Answer → Monitor → Type 0 where
  end : {b : Monitor} → Made b [] [] b
  call : {b b' : Monitor} {k : Call} {ks : List Call} {xs : List Answer} (r : Answered) → CallRight b k r → Made r.monitor ks xs b' → Made b (k ∷ ks) (r.answer ∷ xs) b'

abbrev pub outcomes_of : List Answer → List Outcome
outcomes_of xs = map outcome_of xs

-- Of the calls ks on a fresh box of the sheet s, loaded at d, which answered xs and left the box b. The outcomes are those of the calls' history, which is the only one, and
-- the box stands for it: it has its date, pending actions and schedule, with their numbers and offered dates, its count, and the configuration and date last reached. The lamp that b stores is lit exactly when no run of further offers could get one more action
-- scheduled, else dark, which is document 01's rule; a lamp call on b answers it. Once lit, the lamp is lit after every longer list, and there every offer that is not refused for its
-- action or date, nor with S-5, is dropped.
pub record CodeDemand3 (s : Bytes) (d : ℕ) (ks : List Call) (xs : List Answer) (b : Monitor) : Type 0 where
  pub history : History
  pub recorded : HistoryOf (automaton s d) (fresh (automaton s d)) ks (outcomes_of xs) history
  pub only : (os : List Outcome) (h : History) → HistoryOf (automaton s d) (fresh (automaton s d)) ks os h → (os ≡ outcomes_of xs) × (h ≡ history)
  pub stands : StandsFor (automaton s d) (view_of b) history
  pub lit_is : (b.state.lit ≡ true) ↔ (Schedulable (automaton s d) history → ⊥)
  pub dark_is : (b.state.lit ≡ false) ↔ Schedulable (automaton s d) history
  pub rule_is : reference.Dark (automaton s d) history ↔ Schedulable (automaton s d) history
  pub answers_lamp : (r : Answered) → CallRight b lamp r → r.answer ≡ cond b.state.lit Lit Dark
  pub stays_lit : b.state.lit ≡ true → (more : List Call) (ys : List Answer) (b' : Monitor) → Made b more ys b' → b'.state.lit ≡ true
  pub drops : b.state.lit ≡ true → (more : List Call) (ys : List Answer) (b' : Monitor) → Made b more ys b' → (c t : ℕ) → Admitted (automaton s d) (view_of b') c t → (q : Answered) → CallRight b' (offer c t) q → q.answer ≡ Dropped
  pub sheet_is : bytes_of b ≡ s
  pub valid : Valid b

-- Of two boxes of one sheet, the second loaded d ticks later and given the first one's calls d ticks later: they answered xs and ys and are b and c now. The outcomes are the same, d ticks later, and so is the box: date, held list and
-- schedule, the date last reached, and with it location, readings, count and lamp as they were.
pub record BoxesAlike (d : ℕ) (xs ys : List Answer) (b c : Monitor) : Type 0 where
  pub outcomes_are : outcomes_of ys ≡ map (shift_outcome d) (outcomes_of xs)
  pub box_is : view_of c ≡ shift_monitor d (view_of b)

-- Of a load of the sheet s at d, which gave r, and the calls ks on its box, which answered xs and left the box b: the load's answer and the outcomes are what is told with document 01's largest bound, where nothing else is told, and the box stands for the history that is told. Its readings are saturated above the largest bound of now.
pub record BoxAsBefore (s : Bytes) (d : ℕ) (r : Loaded) (ks : List Call) (xs : List Answer) (b : Monitor) : Type 0 where
  pub history : History
  pub told : ToldUpTo scope_bound s d ks (checked_of r.checked) (outcomes_of xs) (some history)
  pub only : (k : Checked) (os : List Outcome) (h : Option History) → ToldUpTo scope_bound s d ks k os h → (k ≡ checked_of r.checked) × (os ≡ outcomes_of xs) × (h ≡ some history)
  pub stands : StandsFor (automaton s d) (view_of b) history
