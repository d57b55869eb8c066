-- The dates are those that the model reads off, and the configuration is the one that they lead to. They fall by the actions left, then by the ticks below saturation, then by the order waiting, playing.
-- Assumes nothing.
use lib.ListN.{length}
use Rattle.retimer.proofs.Prospects.{weight, rank}
use Rattle.retimer.proofs.optimum.+playing_waiting.Given as goal

abbrev pub decreases-playing : goal.decreases-playing
decreases-playing l = weight (length l.cs.now) l.k

abbrev pub decreases-waiting : goal.decreases-waiting
decreases-waiting l = rank (length l.cs.now) l.k l.r
