-- `transitions::put_at` meets its contract: those put and those ahead are all.
-- Assumes nothing.
use mathlib.Core.Path.{ap}
use mathlib.Core.List.{List}
use native.Mathlib.Omega.{arith}
use lib.ListN.{length}
use Rattle.retimer.proofs.Writing.{as_part}
use Rattle.product.specs.Encoding.{transitions_bytes}
use Rattle.product.proofs.RowLaws.{row_joints, row_fits, fitting_at}
use Rattle.enforcement.specs.Automaton.{Transition, locations}
use Rattle.product.specs.Rows.{row_transitions}
use Rattle.product.proofs.Putting.{laying_begun, laying_room, laying_put, laying_done}
use Rattle.product.proofs.transitions.put_at.Goals as goal

pub loop-i-init : goal.loop-i-init
loop-i-init c =
    let a = c.args in
    let e = row_joints c.of-both.ensures c.of-a.ensures c.of-b.ensures in
    laying_begun a.first.now (locations a.second.now) (row_transitions a.second.now c.of-b.result) a.out.now a.at c.of-a.result (omega (arith, c.requires.1.1, ap (λ (ts : List Transition). length (transitions_bytes ts)) e))

pub put_matching-end-requires : goal.put_matching-end-requires
put_matching-end-requires c =
    let r = c.requires in
    let some = c.loop-i-test.true in
    (r.0, (fitting_at c.loop-i.i some (row_fits r.0.first c.of-a.ensures), (row_fits r.0.second c.of-b.ensures, laying_room c.loop-i.invariant some)))

pub loop-i-preserved : goal.loop-i-preserved
loop-i-preserved c =
    let m = c.put_matching-end in
    laying_put c.loop-i.invariant c.loop-i-test.true m.ensures m.auto.out

pub returns : goal.returns
returns c = as_part (laying_done c.loop-i.invariant c.loop-i-test.false) (ap transitions_bytes (row_joints c.of-both.ensures c.of-a.ensures c.of-b.ensures))
