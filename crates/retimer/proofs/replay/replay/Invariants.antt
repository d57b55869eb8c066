-- `replay::replay` meets its contract. The loop's invariant: the state and the answer are those of the first k calls.
-- Assumes nothing.
use Rattle.retimer.proofs.Replays.{Replaying}
use Rattle.retimer.proofs.replay.replay.Given as goal

abbrev pub invariant-loop-k : goal.invariant-loop-k
invariant-loop-k l = Replaying (record { bytes = l.sheet; size = l.size; live = l.live; state = l.initial.q }) l.calls l.k (record { bytes = l.sheet; size = l.size; live = l.live; state = l.q }) l.answer
