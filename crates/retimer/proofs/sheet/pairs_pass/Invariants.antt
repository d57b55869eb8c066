-- `sheet::pairs_pass` meets its contract. The invariant: the pairs from l on decide, where the transitions before them end at end.
-- Assumes nothing.
use mathlib.Core.Path.{◌≡◌}
use Prim.Native.Nat.{◌+◌, ◌-◌, ◌*◌, ◌≤◌}
use Rattle.enforcement.specs.Limits.{max_count}
use Rattle.enforcement.specs.Automaton.{locations}
use Rattle.enforcement.specs.Loading.{pairs_pass}
use Rattle.retimer.proofs.sheet.pairs_pass.Given as goal

abbrev pub invariant-loop-l : goal.invariant-loop-l
invariant-loop-l l = (l.l ≤ l.count) × ((l.end ≤ 6 + 4 * max_count + 65536 * l.l) × (pairs_pass l.s (l.count - l.l) l.l l.end ≡ pairs_pass l.s (locations l.s) 0 (6 + 4 * locations l.s)))
