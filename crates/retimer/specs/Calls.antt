-- What the calls of the box promise.
use Rattle.std.specs.Prelude.{◌≡◌, Bool, true, false, List, ◌∷◌, [], ◌++◌, ℕ, ◌+◌, ◌-◌, ◌≤◌, ◌<◌, max, ltb, length, take, get_or, replicate}
use Rattle.enforcement.specs.Limits.{max_size, max_count, max_scheduled, max_date, max_numbered}
use Rattle.enforcement.specs.Automaton.{Bytes, automaton}
use Rattle.enforcement.specs.Loading.{Loads, check}
use Rattle.enforcement.specs.History.{History, fresh, Call, actions_of, Outcome, scheduled, held, dropped, played, nothing, lit, dark, refused}
use Rattle.enforcement.specs.Monitor as model
use Rattle.enforcement.specs.Model.{ticks, prospect, compile}
use Rattle.enforcement.specs.Monitor.{is_lit, answer, fresh_monitor, checked, placed, earliest, standing, joins, walk}
use Rattle.enforcement.specs.Demands.{StandsFor, Demand2}
use Rattle.retimer.specs.declared.limits.Request.{Request}
use Rattle.retimer.specs.declared.limits.Slot.{Slot}
use Rattle.retimer.specs.declared.limits.State.{State}
use Rattle.retimer.specs.declared.limits.Monitor.{Monitor}
use Rattle.retimer.specs.declared.state.Answer.{Answer}
use Rattle.retimer.specs.declared.state.Answer.TheVariants.{Scheduled, Held, Dropped, Played, Nothing, Lit, Dark, Refused}
use Rattle.retimer.specs.declared.state.Moved.{Moved}
use Rattle.retimer.specs.declared.monitor.Answered.{Answered}
use Rattle.retimer.specs.declared.monitor.Loaded.{Loaded}
use Rattle.retimer.specs.declared.reason.Reason.{Reason}
use Rattle.retimer.specs.Reasons.{reason_of}
use Rattle.retimer.specs.Checked.{checked_of}
use Rattle.retimer.specs.Readings.{waited, located, Standing}
use Rattle.retimer.specs.Counts.{counts_size}
use Rattle.retimer.specs.View.{bytes_of, automaton_of, pending_of, view, view_of, StateSound, StateValid, Valid}

-- Document 01's outcome of each answer.
abbrev pub outcome_of : Answer → Outcome
outcome_of (Scheduled n d) = scheduled n d
outcome_of (Held n) = held
outcome_of Dropped = dropped
outcome_of (Played e) = played e.request.action e.date e.request.number e.request.offered
outcome_of Nothing = nothing
outcome_of Lit = lit
outcome_of Dark = dark
outcome_of (Refused r) = refused (reason_of r)

-- The answer and the box as the model has them.
abbrev pub answered_of : Answered → model.Answered
answered_of r = record { outcome = outcome_of r.answer; monitor = view_of r.monitor }

abbrev pub moved_of : Moved → model.Answered
moved_of r = record { outcome = outcome_of r.answer; monitor = view r.state }

-- No request, and no slot: what stands where no list reaches.
abbrev pub no_request : Request
no_request = record { action = 0; number = 0; offered = 0 }

abbrev pub no_slot : Slot
no_slot = record { request = no_request; date = 0 }

-- A state before any call, at a date, location and readings: the last scheduled date is that date too, and nothing is pending, scheduled or numbered.
abbrev pub initial_state : ℕ → ℕ → List ℕ → Bool → State
initial_state d l r x = record { date = d; pending = replicate max_count no_request; held = 0; schedule = replicate max_scheduled no_slot; planned = 0; location = l; readings = r; last = d; numbered = 0; lit = x }

-- A refusal hands back the state that came.
abbrev pub refusal : State → Reason → Moved
refusal q p = record { state = q; answer = Refused p }

-- Only the date, the count of numbered offers and the lamp move.
abbrev pub moved_to : State → ℕ → ℕ → Bool → State
moved_to q t n x = record { date = t; pending = q.pending; held = q.held; schedule = q.schedule; planned = q.planned; location = q.location; readings = q.readings; last = q.last; numbered = n; lit = x }

-- An offer is dropped at t: it has its number, and the lamp is x.
abbrev pub dropping : State → ℕ → Bool → Moved
dropping q t x = record { state = moved_to q t (q.numbered + 1) x; answer = Dropped }

-- The lamp by the rule at date t, with these actions pending, and with those that are.
abbrev pub lamp_with : Bytes → State → ℕ → List ℕ → Bool
lamp_with s q t cs = is_lit (compile s) (standing (view q) t) cs

abbrev pub lamp_at : Bytes → State → ℕ → Bool
lamp_at s q t = lamp_with s q t (actions_of (view q).pending)

-- The box with another state: sheet and table are kept.
abbrev pub with_state : Monitor → State → Monitor
with_state b q = record { bytes = b.bytes; size = b.size; live = b.live; state = q }

-- Answers after which only the date, the count and the lamp may have moved.
abbrev pub Idle : Answer → Type 0
Idle (Scheduled n d) = ⊥
Idle (Held n) = ⊥
Idle Dropped = Unit {0}
Idle (Played e) = ⊥
Idle Nothing = Unit {0}
Idle Lit = Unit {0}
Idle Dark = Unit {0}
Idle (Refused r) = ⊥

-- What the parts of a call promise: answer and state are those given; a refusal hands back the state that came, and where nothing is held, scheduled or played only its date, count and lamp may have moved; "held" has the held list's own length.
pub record Done (s : Bytes) (live : List ℕ) (q : State) (w : model.Answered) (r : Moved) : Type 0 where
  pub is : moved_of r ≡ w
  pub sound : StateSound s live r.state
  pub refused_same : (p : Reason) → r.answer ≡ Refused p → r.state ≡ q
  pub idle_same : Idle r.answer → r.state ≡ moved_to q r.state.date r.state.numbered r.state.lit
  pub held_count : (n : ℕ) → r.answer ≡ Held n → n ≡ length (view r.state).pending

-- The action that joins the pending ones: the last of those to place.
abbrev pub last_action : State → List ℕ → ℕ
last_action q cs = get_or cs q.held 0

abbrev pub new_dates : State → List ℕ → List ℕ
new_dates q ds = take (q.held + 1) ds

-- What an offer answers that passed the first checks.
abbrev pub decided_of : Bytes → State → ℕ → ℕ → model.Answered
decided_of s q c t = checked (compile s) (view q) c t true false false false

-- What case 1 is given at first: the pending actions with one more, which have a correction, and where it starts.
pub record CorrectAsked (s : Bytes) (live : List ℕ) (q : State) (t : ℕ) (cs : List ℕ) (start : ℕ) (here : List ℕ) : Type 0 where
  pub sound : StateSound s live q
  pub early : t ≤ max_date
  pub countable : q.numbered < max_numbered
  pub start_is : start ≡ max t q.last
  pub here_is : here ≡ waited (start - q.last) q.readings
  pub joined : take (q.held + 1) cs ≡ actions_of (pending_of q) ++ (last_action q cs ∷ [])
  pub correctable : (n : ℕ) × (prospect (compile s) (take (q.held + 1) cs) (located q.location here) ≡ ticks n)

-- What it is given then: the pending actions with one more, their dates, the last of them, and the configuration that they reach.
pub record PlaceAsked (s : Bytes) (live : List ℕ) (q : State) (t : ℕ) (cs ds : List ℕ) (last l : ℕ) (r : List ℕ) : Type 0 where
  pub sound : StateSound s live q
  pub early : t ≤ max_date
  pub countable : q.numbered < max_numbered
  pub ordered : t ≤ last
  pub joined : take (q.held + 1) cs ≡ actions_of (pending_of q) ++ (last_action q cs ∷ [])
  pub stands : Standing s l r
  pub reached : located l r ≡ walk (compile s).step (actions_of (joins (view q) (last_action q cs) t)) (new_dates q ds) (earliest (view q) t) (standing (view q) t)

-- Case 1 of the model.
abbrev pub placed_of : Bytes → State → ℕ → List ℕ → List ℕ → ℕ → model.Answered
placed_of s q t cs ds last = placed (compile s) (view q) (last_action q cs) t (new_dates q ds) last (ltb max_date last) (ltb (max_scheduled - length (view q).schedule) (length (joins (view q) (last_action q cs) t)))

-- What a call on a state promises: what `CallRight` says, of the state beside its sheet and table.
pub record MoveRight (s : Bytes) (live : List ℕ) (q : State) (k : Call) (r : Moved) : Type 0 where
  pub is : moved_of r ≡ answer (compile s) (view q) k
  pub rule : (d : ℕ) (h : History) → StandsFor (automaton s d) (view q) h → Demand2 (automaton s d) h k (moved_of r)
  pub valid : StateValid s live r.state
  pub refused_same : (p : Reason) → r.answer ≡ Refused p → r.state ≡ q
  pub idle_same : Idle r.answer → r.state ≡ moved_to q r.state.date r.state.numbered r.state.lit
  pub held_count : (n : ℕ) → r.answer ≡ Held n → n ≡ length (view r.state).pending

-- What a call promises (demand 2): answer and box are the model's; for every loading date and history that the box stands for, the answer is the history's, and the box
-- stands for the history after it; the box is one, with bytes and table as they were; a refusal hands back the box that came, lamp included, and where nothing is held, scheduled or
-- played only its date, count and lamp may have moved; "held" has the held list's own length.
pub record CallRight (b : Monitor) (k : Call) (r : Answered) : Type 0 where
  pub is : answered_of r ≡ answer (compile (bytes_of b)) (view_of b) k
  pub rule : (d : ℕ) (h : History) → StandsFor (automaton_of b d) (view_of b) h → Demand2 (automaton_of b d) h k (answered_of r)
  pub valid : Valid r.monitor
  pub kept : r.monitor ≡ with_state b r.monitor.state
  pub idle_same : Idle r.answer → r.monitor.state ≡ moved_to b.state r.monitor.state.date r.monitor.state.numbered r.monitor.state.lit
  pub refused_same : (q : Reason) → r.answer ≡ Refused q → r.monitor ≡ b
  pub held_count : (n : ℕ) → r.answer ≡ Held n → n ≡ length (view_of r.monitor).pending

-- What a fresh box is: a box of the sheet, loaded at d, that stands for the history of no calls: date and last scheduled date are d, clocks read 0 there, nothing is pending or scheduled, and its lamp is by document 01's rule.
pub record FreshRight (s : Bytes) (d : ℕ) (b : Monitor) : Type 0 where
  pub is : view_of b ≡ fresh_monitor (automaton_of b d)
  pub stands : StandsFor (automaton_of b d) (view_of b) (fresh (automaton_of b d))
  pub sheet : bytes_of b ≡ s
  pub valid : Valid b

-- What stands in the box's place where there is none: no sheet, zeros throughout, and a dark lamp.
unfoldable pub no_monitor : Monitor
no_monitor = record { bytes = replicate max_size 0; size = 0; live = replicate counts_size 0; state = initial_state 0 0 (0 ∷ 0 ∷ []) false }

-- What a load at d promises: the check's answer; where that accepts sheet and date, a fresh box; where it does not, no box.
pub record LoadRight (s : Bytes) (d : ℕ) (r : Loaded) : Type 0 where
  pub checked : checked_of r.checked ≡ check s d
  pub fresh : Loads s d → FreshRight s d r.monitor
  pub no_box : (Loads s d → ⊥) → r.monitor ≡ no_monitor
