-- `layers::lay_from` meets its contract: it falls by the actions from k on. Assumes nothing.
use Prim.Native.Nat.{◌-◌}
use lib.ListN.{length}
use Rattle.retimer.proofs.layers.+lay_from.Given as goal

abbrev pub decreases-lay_from : goal.decreases-lay_from
decreases-lay_from l = length l.cs.now - l.k
