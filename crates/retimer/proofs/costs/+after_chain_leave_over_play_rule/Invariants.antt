-- The search along chains gives the least ticks and keeps the memos right. It falls by the actions left, then by the order after, chain, play, leave, rule, over.
-- Assumes nothing.
use lib.ListN.{length}
use Rattle.retimer.proofs.Searching.{InOver, InLeave, InPlay, InChain}
use Prim.Native.Nat.{◌+◌, ◌-◌, ◌*◌}
use Rattle.retimer.proofs.costs.+after_chain_leave_over_play_rule.Given as goal

abbrev pub decreases-after : goal.decreases-after
decreases-after l = (length l.cs.now - l.k) * 8 + 6

abbrev pub decreases-chain : goal.decreases-chain
decreases-chain l = (length l.cs.now - l.k) * 8 + 5

abbrev pub decreases-leave : goal.decreases-leave
decreases-leave l = (length l.cs.now - l.k) * 8 + 3

abbrev pub decreases-over : goal.decreases-over
decreases-over l = (length l.cs.now - l.k) * 8 + 1

abbrev pub decreases-play : goal.decreases-play
decreases-play l = (length l.cs.now - l.k) * 8 + 4

abbrev pub decreases-rule : goal.decreases-rule
decreases-rule l = (length l.cs.now - l.k) * 8 + 2

abbrev pub invariant-chain-loop-front : goal.invariant-chain-loop-front
invariant-chain-loop-front l = InChain l.s l.cs l.k l.l l.x l.y l.initial.first l.initial.second l.first l.second l.here l.front.places l.front.best l.i

abbrev pub decreases-chain-loop-front : goal.decreases-chain-loop-front
decreases-chain-loop-front l = length l.cs - l.i

abbrev pub invariant-leave-loop-i : goal.invariant-leave-loop-i
invariant-leave-loop-i l = InLeave l.s l.cs l.k l.l l.e l.x l.y l.initial.next l.initial.found.places l.initial.found.best l.initial.first l.initial.second (l.start + l.size) l.next l.first l.second (l.start + 7 * l.i) l.found.places l.found.best

abbrev pub invariant-over-loop-i : goal.invariant-over-loop-i
invariant-over-loop-i l = InOver l.s l.cs l.k l.t l.clock l.z l.n l.from l.best l.initial.first l.initial.second l.first l.second l.v l.i

abbrev pub invariant-play-loop-left : goal.invariant-play-loop-left
invariant-play-loop-left l = InPlay l.s l.cs l.k l.x l.y l.here l.initial.left l.initial.found.best l.initial.next l.initial.first l.initial.second l.next l.first l.second l.found.places l.found.best l.left

abbrev pub decreases-play-loop-left : goal.decreases-play-loop-left
decreases-play-loop-left l = l.left
