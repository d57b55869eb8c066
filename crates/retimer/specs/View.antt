-- The code's monitor as document 01's box: numbers and lists; and what every load and call promises of it.
use Rattle.std.specs.Prelude.{◌≡◌, List, map, ℕ, ◌≤◌, length, take}
use Rattle.enforcement.specs.Limits.{max_size, max_count, max_scheduled, max_date, max_numbered}
use Rattle.enforcement.specs.Automaton.{Bytes, Automaton, automaton}
use Rattle.enforcement.specs.Loading.{WellFormed}
use Rattle.enforcement.specs.History.{Call, Outcome, History, fresh, HistoryOf}
use Rattle.enforcement.specs.History as history
use Rattle.enforcement.specs.Monitor as model
use Rattle.enforcement.specs.Demands.{StandsFor}
use Rattle.retimer.specs.declared.limits.Request.{Request}
use Rattle.retimer.specs.declared.limits.Slot.{Slot}
use Rattle.retimer.specs.declared.limits.State.{State}
use Rattle.retimer.specs.declared.limits.Monitor.{Monitor}
use Rattle.retimer.specs.Readings.{located, Standing}
use Rattle.retimer.specs.Live.{LiveTable}

-- The bytes of the box's sheet.
abbrev pub bytes_of : Monitor → Bytes
bytes_of b = take b.size b.bytes

-- The automaton of a box that was loaded at d. A box does not keep that date: its own, the last scheduled one and the readings began there.
abbrev pub automaton_of : Monitor → ℕ → Automaton
automaton_of b d = automaton (bytes_of b) d

abbrev pub request_of : Request → history.Request
request_of r = record { action = r.action; number = r.number; offered = r.offered }

abbrev pub slot_of : Slot → history.Slot
slot_of e = record { request = request_of e.request; date = e.date }

abbrev pub pending_of : State → List history.Request
pending_of q = map request_of (take q.held q.pending)

abbrev pub schedule_of : State → List history.Slot
schedule_of q = map slot_of (take q.planned q.schedule)

-- The box: date, held list, schedule, the configuration and date that the last event ever scheduled reached, how many offers are numbered, and the lamp.
unfoldable pub view : State → model.Monitor
view q = record { date = q.date; pending = pending_of q; schedule = schedule_of q; configuration = located q.location q.readings; last = q.last; numbered = q.numbered; lit = q.lit }

abbrev pub view_of : Monitor → model.Monitor
view_of b = view b.state

-- A well-formed sheet, its table, and a state whose parts fit.
pub record StateSound (s : Bytes) (live : List ℕ) (q : State) : Type 0 where
  pub loads : WellFormed s
  pub table : LiveTable s live
  pub pending_sized : length q.pending ≡ max_count
  pub held_fits : q.held ≤ max_count
  pub schedule_sized : length q.schedule ≡ max_scheduled
  pub planned_fits : q.planned ≤ max_scheduled
  pub standing : Standing s q.location q.readings
  pub date_fits : q.date ≤ max_date
  pub last_fits : q.last ≤ max_date
  pub numbered_fits : q.numbered ≤ max_numbered

-- The parts of a box fit.
pub record Sound (b : Monitor) : Type 0 where
  pub bytes_sized : length b.bytes ≡ max_size
  pub size_fits : b.size ≤ max_size
  pub state : StateSound (bytes_of b) b.live b.state

-- Some loading date, some calls from a box that is loaded then, their history, and that the box stands for it, its lamp by document 01's rule among the rest.
pub record Recorded (s : Bytes) (v : model.Monitor) : Type 0 where
  pub loaded : ℕ
  pub loaded_fits : loaded ≤ max_date
  pub past : List Call
  pub outcomes : List Outcome
  pub history : History
  pub recorded : HistoryOf (automaton s loaded) (fresh (automaton s loaded)) past outcomes history
  pub stands : StandsFor (automaton s loaded) v history

-- A state of a sheet: its parts fit, and it stands for the history of some list of calls from a fresh one, loaded at some date.
pub record StateValid (s : Bytes) (live : List ℕ) (q : State) : Type 0 where
  pub sound : StateSound s live q
  pub recorded : Recorded s (view q)

-- A box: its parts fit, and it stands for the history of some list of calls from a fresh one, loaded at some date. Every load and call promises this of the box that it gives, and a call asks for nothing else.
pub record Valid (b : Monitor) : Type 0 where
  pub sound : Sound b
  pub recorded : Recorded (bytes_of b) (view_of b)
