-- `block::mark` meets its contract: the loop's turn follows the model's call, and its line is the call's.
-- Assumes nothing.
use Rattle.std.proofs.Common.{◌+◌, ◌*◌}
use Rattle.marking.proofs.Following.{Marking}
use Rattle.marking.proofs.block.mark.Given as goal

abbrev pub invariant-loop-k : goal.invariant-loop-k
invariant-loop-k l = Marking (record { bytes = l.sheet; size = l.size; live = l.live; state = l.initial.state }) l.calls l.n l.initial.out l.out l.state (l.n + l.k) l.end (5 * l.k)
