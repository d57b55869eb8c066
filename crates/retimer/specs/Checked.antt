-- The answer of the load check as document 01 has it, and what its tests give each other.
use Rattle.std.specs.Prelude.{Result, Ok, Err, Bool, ◌&&◌, ◌||◌, not, ◌≤◌, leb, ltb, eqb, length}
use Rattle.enforcement.specs.Limits.{max_size}
use Rattle.enforcement.specs.Automaton.{Bytes, locations, clocks, actions, Transition}
use Rattle.enforcement.specs.Loading.{HeaderFits, Layout, bounds_pass, one_clock_passes}
use Rattle.enforcement.specs.Loading as loading
use Rattle.retimer.specs.Reasons.{reason_of}
use Rattle.retimer.specs.declared.sheet.Counts.{Counts}
use Rattle.retimer.specs.declared.reason.Reason.{Reason}

-- The figures of the desk program's first line.
abbrev pub figures_of : Counts → loading.Counts
figures_of k = record { locations = k.locations; clocks = k.clocks; actions = k.actions; transitions = k.transitions; accepting = k.accepting }

-- The answer that a declared one stands for.
abbrev pub checked_of : Result Counts Reason → loading.Checked
checked_of (Ok k) = loading.accepted (figures_of k)
checked_of (Err r) = loading.refused (reason_of r)

-- The parts of the test of a transition: what it names, its bounds, and what is asked of clock 2.
abbrev pub names_pass : Bytes → Transition → Bool
names_pass s t = ltb t.action (actions s) && (ltb t.target (locations s) && leb t.resets 3)

abbrev pub guards_pass : Transition → Bool
guards_pass t = bounds_pass t.low1 t.high1 && bounds_pass t.low2 t.high2

abbrev pub clocks_pass : Bytes → Transition → Bool
clocks_pass s t = not (eqb (clocks s) 1) || one_clock_passes t

-- What the tests of I-1 and I-2 give.
pub record Headed (s : Bytes) : Type 0 where
  pub long : 6 ≤ length s
  pub short : length s ≤ max_size
  pub header : HeaderFits s

-- What the tests of I-1 to I-4 give.
pub record LaidOut (s : Bytes) : Type 0 where
  pub headed : Headed s
  pub layout : Layout s
