-- Boxes that are loaded d ticks apart, and given the same calls as far apart, are alike exactly when each call can be shifted.
-- Assumes nothing.
use mathlib.Core.Path.{◌≡◌, sym, subst}
use mathlib.Core.List.{List, map}
use mathlib.Core.Logic.{◌↔◌}
use Prim.Native.Nat.{ℕ, ◌+◌}
use Rattle.enforcement.specs.Automaton.{Bytes, automaton}
use Rattle.enforcement.specs.History.{fresh, Call, Outcome, HistoryOf}
use Rattle.enforcement.specs.Demands.{StandsFor}
use Rattle.enforcement.specs.Shift.{shift_call, shift_outcome, shift_history, AllShiftable}
use Rattle.enforcement.proofs.Shifts.{alike, outcomes_shiftable, stands_shifted}
use Rattle.retimer.specs.declared.limits.Monitor.{Monitor}
use Rattle.retimer.specs.declared.state.Answer.{Answer}
use Rattle.retimer.specs.View.{view_of}
use Rattle.retimer.specs.Demand3.{outcomes_of, CodeDemand3, BoxesAlike}

module _ (s : Bytes) (e d : ℕ) (ks : List Call) (xs ys : List Answer) (b c : Monitor) (first : CodeDemand3 s e ks xs b) (second : CodeDemand3 s (e + d) (map (shift_call d) ks) ys c) where
  boxes_later : AllShiftable d (automaton s e) (fresh (automaton s e)) ks → BoxesAlike d xs ys b c
  boxes_later h =
      let r = second.only (map (shift_outcome d) (outcomes_of xs)) (shift_history d first.history) ((alike d (automaton s e) first.recorded).0 h) in
      record {
        outcomes_are = sym r.0;
        box_is = stands_shifted d (automaton s e) (view_of b) (view_of c) first.history first.stands (subst (StandsFor (automaton s (e + d)) (view_of c)) (sym r.1) second.stands);
      }

  boxes_shiftable : BoxesAlike d xs ys b c → AllShiftable d (automaton s e) (fresh (automaton s e)) ks
  boxes_shiftable h =
      outcomes_shiftable d (automaton s e) first.recorded
      (subst (λ (os : List Outcome). HistoryOf (automaton s (e + d)) (fresh (automaton s (e + d))) (map (shift_call d) ks) os second.history) h.outcomes_are second.recorded)

-- The second box is loaded at f, which is d ticks after e.
pub boxes_alike : (s : Bytes) (e f d : ℕ) → f ≡ e + d → (ks : List Call) (xs ys : List Answer) (b c : Monitor) → CodeDemand3 s e ks xs b → CodeDemand3 s f (map (shift_call d) ks) ys c → AllShiftable d (automaton s e) (fresh (automaton s e)) ks ↔ BoxesAlike d xs ys b c
boxes_alike s e f d is ks xs ys b c first second =
    let z : CodeDemand3 s (e + d) (map (shift_call d) ks) ys c = subst (λ (n : ℕ). CodeDemand3 s n (map (shift_call d) ks) ys c) is second in
    (boxes_later s e d ks xs ys b c first z, boxes_shiftable s e d ks xs ys b c first z)
