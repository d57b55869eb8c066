-- `sheet::all_fit` meets its contract. The invariant: the transitions from the k-th on decide, and all are in the bytes.
-- Assumes nothing.
use mathlib.Core.Path.{◌≡◌}
use Prim.Native.Nat.{◌+◌, ◌*◌, ◌≤◌}
use lib.ListN.{length}
use Rattle.enforcement.specs.Automaton.{all_transitions}
use Rattle.enforcement.specs.Loading.{all_fit}
use Rattle.retimer.proofs.SheetLaws.{rest_from}
use Rattle.retimer.proofs.sheet.all_fit.Given as goal

abbrev pub invariant-loop-k : goal.invariant-loop-k
invariant-loop-k l = (l.first + 7 * l.n ≤ length l.s) × (all_fit l.s (rest_from l.s l.n l.first l.k) ≡ all_fit l.s (all_transitions l.s))
