-- `reach::outlook_from` meets its contract. The outlook of the next set is that of the set. The measure is how many actions are left. Assumes nothing.
use lib.ListN.{length}
use Prim.Native.Nat.{◌-◌}
use Rattle.retimer.proofs.reach.+outlook_from.Given as goal

abbrev pub decreases-outlook_from : goal.decreases-outlook_from
decreases-outlook_from l = length l.cs.now - l.k
