-- `script::calls_of` meets its contract: the calls put and those that are left are the text's.
-- Assumes nothing.
use mathlib.Core.Path.{sym, ap, ◌∙◌}
use mathlib.Core.List.{[]}
use Prim.Native.Nat.{ℕ, ◌+◌, ◌-◌, ◌/◌, ◌≤◌}
use native.Mathlib.Omega.{arith}
use lib.ListN.{length}
use borrow.Author.Tests.{leb-true, leb-false}
use Rattle.drafting.specs.Scripts.{calls_from}
use Rattle.drafting.proofs.Filling.{further, full, as_bytes}
use Rattle.drafting.proofs.RoomLaws.{room_one, room_after, inside, past, counted}
use Rattle.drafting.proofs.CallLaws.{entry_next, no_room_for_call, no_call}
use Rattle.drafting.proofs.script.calls_of.Goals as goal

pub loop-i-preserved : goal.loop-i-preserved
loop-i-preserved c =
    let s = c.args.text.now in
    let l = c.loop-i in
    let e = c.entry_at-e in
    let p = c.put_entry-n in
    let room : l.n + 5 ≤ length l.out = omega (arith, leb-true) in
    let far = past _ _ _ p.ensures.0 in
    let same = sym l.invariant.1.0 in (
      omega (arith, inside (length l.out) (l.n + 5) (e.result.times - 1) p.result room p.ensures.0),
      (
        omega arith,
        further l.invariant.1.1
            (entry_next s l.i _ _ _ c.first_digit-i-in-loop-i.result e.result (ap (λ (k : ℕ). (k - l.n) / 5) same ∙ room_one (length l.out) l.n room) c.loop-i-test.true e.ensures c.first_digit-i-in-loop-i.ensures (ap (λ (k : ℕ). (k - p.result) / 5) same ∙ room_after (length l.out) (l.n + 5) (e.result.times - 1) p.result room p.ensures.0))
            (omega (arith, far)) p.ensures.1,
      ),
    )

pub returns-else-n-out : goal.returns-else-n-out
returns-else-n-out c =
    let e = c.args in
    let l = c.loop-i in
    (counted l.n l.out l.invariant.0, as_bytes (full l.invariant.1.1 (no_room_for_call e.text.now l.i _ (omega (arith, leb-false)))) (ap (calls_from (length e.out.now / 5) e.text.now [] 0) c.first_digit-i.ensures))

pub returns-after-loop-i : goal.returns-after-loop-i
returns-after-loop-i c =
    let e = c.args in
    let l = c.loop-i in
    (counted l.n l.out l.invariant.0, as_bytes (full l.invariant.1.1 (no_call e.text.now l.i _ c.loop-i-test.false)) (ap (calls_from (length e.out.now / 5) e.text.now [] 0) c.first_digit-i.ensures))
