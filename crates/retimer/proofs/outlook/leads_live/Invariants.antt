-- `outlook::leads_live` meets its contract. The invariant: no wait of the interval below u leads to a live configuration. The measure is what is left of the interval. Assumes nothing.
use Rattle.retimer.proofs.Looking.{NoneLive}
use Rattle.enforcement.specs.Automaton.{transition_at}
use Rattle.retimer.specs.Waits.{first_wait}
use lib.ListN.{get_or}
use Prim.Native.Nat.{◌≤◌}
use Rattle.retimer.proofs.outlook.leads_live.Given as goal

abbrev pub invariant-loop-u : goal.invariant-loop-u
invariant-loop-u l = (first_wait (transition_at l.s l.p) (get_or l.r 0 0) (get_or l.r 1 0) ≤ l.u) × NoneLive l.s l.r (transition_at l.s l.p) l.u
