-- `State::hold` meets its contract, with room and without.
-- Assumes nothing.
use native.Mathlib.Omega.{arith}
use Rattle.retimer.proofs.Views.{full_done, held_done}
use Rattle.retimer.proofs.limits.State.hold.Goals as goal

pub returns-then-n-ge-COUNT : goal.returns-then-n-ge-COUNT
returns-then-n-ge-COUNT c =
    rw c.refuse.ensures (full_done c.args.self c.args.c c.args.t c.requires.0.0 (omega (arith, c.if-n-ge-COUNT.true)))

pub returns : goal.returns
returns c =
    rw c.next_request-next.ensures (held_done c.args.self c.args.c c.args.t c.requires.0.0 c.requires.0.1.0 c.requires.0.1.1 (omega (arith, c.if-n-ge-COUNT.false)) c.requires.1)
