-- `script::bytes_of` meets its contract: the bytes put and those that are left are the text's.
-- Assumes nothing.
use mathlib.Core.Path.{refl, ap}
use native.Mathlib.Omega.{arith}
use lib.ListN.{length, length-set}
use borrow.Author.Tests.{ltb-true, ltb-false}
use Rattle.drafting.specs.Scripts.{bytes_from}
use Rattle.drafting.proofs.Filling.{one, further, full, as_bytes}
use Rattle.drafting.proofs.RoomLaws.{counted}
use Rattle.drafting.proofs.ByteLaws.{byte_next, no_room, no_byte}
use Rattle.drafting.proofs.script.bytes_of.Goals as goal

pub loop-i-preserved : goal.loop-i-preserved
loop-i-preserved c =
    let s = c.args.text.now in
    let l = c.loop-i in
    let number = c.number_at-next in
    let byte = c.low in
    let i = c.first_digit-i-in-loop-i in (
      simp length-set (omega (arith, ltb-true)),
      (
        simp length-set l.invariant.1.0,
        further l.invariant.1.1 (byte_next _ _ s l.i byte.result i.result number.result (omega (arith, ltb-true)) c.loop-i-test.true number.ensures byte.ensures i.ensures) (omega arith) (one l.out l.n byte.result (omega (arith, ltb-true)) refl),
      ),
    )

pub returns-else-n-out : goal.returns-else-n-out
returns-else-n-out c =
    let e = c.args in
    let l = c.loop-i in
    (counted l.n l.out l.invariant.0, as_bytes (full l.invariant.1.1 (no_room _ e.text.now l.i (omega (arith, ltb-false)))) (ap (bytes_from (length e.out.now) e.text.now) c.first_digit-i.ensures))

pub returns-after-loop-i : goal.returns-after-loop-i
returns-after-loop-i c =
    let e = c.args in
    let l = c.loop-i in
    (counted l.n l.out l.invariant.0, as_bytes (full l.invariant.1.1 (no_byte _ e.text.now l.i c.loop-i-test.false)) (ap (bytes_from (length e.out.now) e.text.now) c.first_digit-i.ensures))
