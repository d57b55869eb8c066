-- `script::put_entry` meets its contract: the calls put and those that are left are the entry's.
-- Assumes nothing.
use Rattle.std.proofs.Common.{arith, ◌≡◌, ◌+◌, ◌-◌, length, suc}
use Rattle.drafting.specs.Scripts.{fitting, call_of}
use Rattle.drafting.proofs.Filling.{further, full, as_bytes, ending}
use Rattle.drafting.proofs.RoomLaws.{fitting_one}
use Rattle.drafting.proofs.CallLaws.{once_more, no_more}
use Rattle.drafting.proofs.script.put_entry.Goals as goal

pub loop-k-preserved : goal.loop-k-preserved
loop-k-preserved c =
    let n = c.min-n.result in
    let k = c.loop-k.k in
    ending (further c.loop-k.invariant (once_more (call_of c.args.e) (n - k) (n - (k + 1)) (omega arith)) (omega arith) c.put_call.ensures) (omega arith)

pub returns : goal.returns
returns c =
    let e = c.args.e in
    let at = c.args.at in
    let n = c.min-n.result in
    let size = length c.args.out.now in
    let more = fitting (e.times - 1) size (at + 5) in
    let one : n ≡ suc more = fitting_one size at e.times n (omega arith) (omega arith) in
    (omega (arith, one), as_bytes (full (ending c.loop-k.invariant (omega arith)) (no_more (call_of e) (n - c.loop-k.k) (omega arith))) (once_more (call_of e) n more one))
