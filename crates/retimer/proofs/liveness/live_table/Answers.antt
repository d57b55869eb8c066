-- `liveness::live_table` meets its contract. Assumes nothing.
use mathlib.Core.Path.{refl}
use lib.Dec.{eqb}
use native.Mathlib.Omega.{arith}
use Rattle.enforcement.specs.Automaton.{clocks}
use Rattle.retimer.specs.Counts.{counts_size}
use Rattle.enforcement.proofs.Loading.{size_fits}
use Rattle.retimer.proofs.Arrays.{zero_at}
use Rattle.retimer.proofs.LiveTable.{least_most, table_counted, table_closed}
use Rattle.retimer.proofs.liveness.live_table.Goals as goal

pub bounds-s-0 : goal.bounds-s-0
bounds-s-0 c = omega (arith, size_fits _ c.requires)

pub bounds-s-1 : goal.bounds-s-1
bounds-s-1 c = omega (arith, size_fits _ c.requires)

pub count-requires : goal.count-requires
count-requires c =
    let live = c.live_set-live.ensures in
    let n = c.from.ensures in
    record { rows_sized = live.sized; sized = refl; in_range = omega (arith, n, live.fits); from_fits = omega (arith, c.least.ensures, least_most (eqb (clocks c.args.s.now) 1)); closed = table_closed _ _ live n c.least.ensures; empty = zero_at counts_size }

pub returns : goal.returns
returns c = table_counted _ _ _ c.live_set-live.ensures c.from.ensures c.least.ensures c.count.ensures
