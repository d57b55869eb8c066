-- `replay::replay` meets its contract. The loop's invariant: the state and the answer are those of the first k calls.
-- Assumes nothing.
use mathlib.Core.Path.{refl}
use native.Mathlib.Omega.{arith}
use Rattle.retimer.proofs.CallLaws.{sheet_size, valid_state, move_call}
use Rattle.retimer.proofs.Loads.{refused_load, accepted_load, accepted_box}
use Rattle.retimer.proofs.Replays.{replaying_none, replaying_valid, replaying_one, replaying_all}
use Rattle.retimer.proofs.replay.replay.Goals as goal

pub returns-then-is_err : goal.returns-then-is_err
returns-then-is_err c =
    let v = c.load-start in
    let none = refused_load c.args.s.now c.args.loaded v.result (cc) v.ensures in
    record { checked = v.ensures.checked; followed = λ l. absurd (none l); no_box = λ n. (v.ensures.no_box n, refl) }

pub loop-k-init : goal.loop-k-init
loop-k-init c = replaying_none c.load-start.result.monitor c.args.calls.now

pub slice_bounds-call_at-end : goal.slice_bounds-call_at-end
slice_bounds-call_at-end c =
    let v = c.load-start in
    sheet_size (accepted_box c.args.s.now c.args.loaded v.result (cc) v.ensures).valid.sound

pub call_at-r-requires : goal.call_at-r-requires
call_at-r-requires c =
    let v = c.load-start in
    (valid_state (replaying_valid (accepted_box c.args.s.now c.args.loaded v.result (cc) v.ensures).valid c.loop-k.invariant), omega arith)

pub loop-k-preserved : goal.loop-k-preserved
loop-k-preserved c =
    let v = c.load-start in
    let p = c.loop-k.invariant in
    replaying_one p (move_call (replaying_valid (accepted_box c.args.s.now c.args.loaded v.result (cc) v.ensures).valid p).sound c.call_at-r.ensures)

pub returns : goal.returns
returns c =
    let v = c.load-start in
    rw c.with_state.ensures
    (record {
      checked = v.ensures.checked;
      followed = λ f. replaying_all v.result.checked (v.ensures.fresh f) c.loop-k.invariant (omega arith);
      no_box = λ n. absurd (n (accepted_load c.args.s.now c.args.loaded v.result (cc) v.ensures));
    })
