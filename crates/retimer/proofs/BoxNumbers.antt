-- The numbers of a box: what is left to play, followed by what is held, is ordered by its numbers, as in the history that the box stands for.
-- Assumes nothing.
use mathlib.Core.Path.{subst⁻¹}
use mathlib.Core.List.{List}
use Prim.Native.Nat.{ℕ}
use Rattle.enforcement.specs.History.{Request, Slot, schedule}
use Rattle.enforcement.specs.Numbers.{Ordered, Numbers}
use Rattle.enforcement.proofs.Numbers.{numbers}
use Rattle.retimer.specs.declared.limits.Monitor.{Monitor}
use Rattle.retimer.specs.View.{automaton_of, pending_of, schedule_of, view, Valid}

pub box_ordered : (b : Monitor) (v : Valid b) → Ordered v.recorded.loaded b.state.date b.state.numbered (schedule_of b.state) (pending_of b.state)
unfolding view Numbers
box_ordered b v =
    let r = v.recorded in
    let a = automaton_of b r.loaded in
    let h = r.history in
    let s = r.stands in
    subst⁻¹ (λ (d : ℕ). Ordered a.loaded d b.state.numbered (schedule_of b.state) (pending_of b.state)) s.date_is
    (subst⁻¹ (λ (n : ℕ). Ordered a.loaded h.date n (schedule_of b.state) (pending_of b.state)) s.numbered_is
    (subst⁻¹ (λ (ss : List Slot). Ordered a.loaded h.date h.numbered ss (pending_of b.state)) s.schedule_is
    (subst⁻¹ (λ (rs : List Request). Ordered a.loaded h.date h.numbered (schedule h) rs) s.pending_is
    (numbers a r.past r.outcomes h r.recorded).left_ordered)))
