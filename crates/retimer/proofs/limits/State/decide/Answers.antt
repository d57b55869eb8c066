-- `State::decide` meets its contract: what is worked out is what the model decides by, and each case is the model's.
-- Assumes nothing.
use mathlib.Core.Path.{◌≡◌, refl, ap, sym, ◌∙◌}
use mathlib.Core.List.{List}
use Prim.Native.Nat.{ℕ, ◌+◌, ◌-◌, ◌≤◌, ◌<◌, max}
use native.Mathlib.Omega.{arith}
use native.Mathlib.Numerals.{add-one}
use lib.ListN.{length, take, set, length-set}
use lib.Seq.{length-take-le, take-suc-set}
use Rattle.retimer.specs.Calls.{decided_of}
use Rattle.retimer.proofs.Views.{done_same, dropped_done}
use Rattle.retimer.proofs.Outlooks.{correct_prospect, extensible_prospect, dead_prospect, dead_lamp}
use Rattle.retimer.proofs.Decisions.{Worked, found, lamp_asked, last_is, correct_asked, hold_is, hold_dark, drop_is, drop_lamp}
use Rattle.enforcement.specs.Limits.{max_count, max_date, max_numbered}
use Rattle.enforcement.specs.History.{actions_of}
use Rattle.retimer.specs.declared.limits.State.{State}
use Rattle.retimer.specs.Readings.{waited}
use Rattle.retimer.specs.View.{pending_of, StateSound}
use Rattle.retimer.proofs.limits.State.decide.Goals as goal

-- What is known before the outlook is asked for.
worked : {s live : List ℕ} {q : State} {t start : ℕ} {here : List ℕ} (c : ℕ) (r : List ℕ) → StateSound s live q → t ≤ max_date → q.numbered < max_numbered → start ≡ max t q.last → here ≡ waited (start - q.last) q.readings → length r ≡ max_count + 1 → take q.held r ≡ actions_of (pending_of q) → Worked s live q c t start here (set r q.held c)
worked {q = q} c r o e n a b l d =
    record {
      sound = o;
      early = e;
      countable = n;
      start_is = a;
      here_is = b;
      sized = length-set r q.held c ∙ l;
      joined = rw (add-one, take-suc-set r q.held c (omega (arith, o.held_fits)), d);
    }

pub slice_bounds-cs-end : goal.slice_bounds-cs-end
slice_bounds-cs-end c = let w = worked c.args.c c.actions-cs.result c.requires.0 c.requires.1.0 c.requires.1.1 c.earliest-start.ensures c.wait_many-here.ensures.0 (omega (arith, c.actions-cs.type_inv)) c.actions-cs.ensures in omega (arith, w.sized, w.sound.held_fits)

pub slice_bounds-outlook_of-end : goal.slice_bounds-outlook_of-end
slice_bounds-outlook_of-end c =
    let w = worked c.args.c c.actions-cs.result c.requires.0 c.requires.1.0 c.requires.1.1 c.earliest-start.ensures c.wait_many-here.ensures.0 (omega (arith, c.actions-cs.type_inv)) c.actions-cs.ensures in
    sym (length-take-le (c.args.self.held + 1) (set c.actions-cs.result c.args.self.held c.args.c) (omega (arith, w.sized, w.sound.held_fits)))

pub outlook_of-o-requires : goal.outlook_of-o-requires
outlook_of-o-requires c =
    let r = c.wait_many-here in
    let w = worked c.args.c c.actions-cs.result c.requires.0 c.requires.1.0 c.requires.1.1 c.earliest-start.ensures c.wait_many-here.ensures.0 (omega (arith, c.actions-cs.type_inv)) c.actions-cs.ensures in
    (lamp_asked c.args.self _ r.result c.requires.0 r.ensures.0, omega (arith, length-take-le (c.args.self.held + 1) (set c.actions-cs.result c.args.self.held c.args.c) (omega (arith, w.sized, w.sound.held_fits))))

pub correct-requires : goal.correct-requires
correct-requires c =
    let p = correct_prospect (found (worked c.args.c c.actions-cs.result c.requires.0 c.requires.1.0 c.requires.1.1 c.earliest-start.ensures c.wait_many-here.ensures.0 (omega (arith, c.actions-cs.type_inv)) c.actions-cs.ensures)) _ refl c.in-Correct.ensures in
    correct_asked (worked c.args.c c.actions-cs.result c.requires.0 c.requires.1.0 c.requires.1.1 c.earliest-start.ensures c.wait_many-here.ensures.0 (omega (arith, c.actions-cs.type_inv)) c.actions-cs.ensures) p.0 p.1

pub hold-requires : goal.hold-requires
hold-requires c =
    (c.requires, hold_dark (worked c.args.c c.actions-cs.result c.requires.0 c.requires.1.0 c.requires.1.1 c.earliest-start.ensures c.wait_many-here.ensures.0 (omega (arith, c.actions-cs.type_inv)) c.actions-cs.ensures) (extensible_prospect (found (worked c.args.c c.actions-cs.result c.requires.0 c.requires.1.0 c.requires.1.1 c.earliest-start.ensures c.wait_many-here.ensures.0 (omega (arith, c.actions-cs.type_inv)) c.actions-cs.ensures)) _ refl c.in-Extensible.ensures))

pub drop_at-requires : goal.drop_at-requires
drop_at-requires c = c.requires.1.1

pub returns-in-Correct : goal.returns-in-Correct
returns-in-Correct c =
    let a = c.args in
    done_same c.correct.ensures (ap (λ (x : ℕ). decided_of a.s.now a.self x a.t) (last_is (worked c.args.c c.actions-cs.result c.requires.0 c.requires.1.0 c.requires.1.1 c.earliest-start.ensures c.wait_many-here.ensures.0 (omega (arith, c.actions-cs.type_inv)) c.actions-cs.ensures)))

pub returns-in-Extensible : goal.returns-in-Extensible
returns-in-Extensible c =
    done_same c.hold.ensures (hold_is (worked c.args.c c.actions-cs.result c.requires.0 c.requires.1.0 c.requires.1.1 c.earliest-start.ensures c.wait_many-here.ensures.0 (omega (arith, c.actions-cs.type_inv)) c.actions-cs.ensures) (extensible_prospect (found (worked c.args.c c.actions-cs.result c.requires.0 c.requires.1.0 c.requires.1.1 c.earliest-start.ensures c.wait_many-here.ensures.0 (omega (arith, c.actions-cs.type_inv)) c.actions-cs.ensures)) _ refl c.in-Extensible.ensures))

pub returns-in-Dead : goal.returns-in-Dead
returns-in-Dead c =
    rw c.drop_at.ensures (dropped_done c.args.self c.args.t _ _ c.requires.0 c.requires.1.0 c.requires.1.1 (drop_lamp (worked c.args.c c.actions-cs.result c.requires.0 c.requires.1.0 c.requires.1.1 c.earliest-start.ensures c.wait_many-here.ensures.0 (omega (arith, c.actions-cs.type_inv)) c.actions-cs.ensures) _ (dead_lamp (found (worked c.args.c c.actions-cs.result c.requires.0 c.requires.1.0 c.requires.1.1 c.earliest-start.ensures c.wait_many-here.ensures.0 (omega (arith, c.actions-cs.type_inv)) c.actions-cs.ensures)) _ refl c.in-Dead.ensures)) (drop_is (worked c.args.c c.actions-cs.result c.requires.0 c.requires.1.0 c.requires.1.1 c.earliest-start.ensures c.wait_many-here.ensures.0 (omega (arith, c.actions-cs.type_inv)) c.actions-cs.ensures) (dead_prospect (found (worked c.args.c c.actions-cs.result c.requires.0 c.requires.1.0 c.requires.1.1 c.earliest-start.ensures c.wait_many-here.ensures.0 (omega (arith, c.actions-cs.type_inv)) c.actions-cs.ensures)) _ refl c.in-Dead.ensures)))
