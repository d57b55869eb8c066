-- `layers::with_tables` meets its contract: it falls by the tables that are missing. Assumes nothing.
use Prim.Native.Nat.{◌-◌}
use Rattle.retimer.proofs.layers.+with_tables.Given as goal

abbrev pub decreases-with_tables : goal.decreases-with_tables
decreases-with_tables l = 3 - l.n
