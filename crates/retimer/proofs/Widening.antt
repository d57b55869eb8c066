-- On a sheet that document 01 accepts, a box answers what it answered with document 01's largest bound.
-- Assumes nothing.
use mathlib.Core.Path.{◌∙◌, sym, subst⁻¹}
use mathlib.Core.List.{List}
use mathlib.Core.Option.{some}
use Prim.Native.Nat.{ℕ}
use Rattle.enforcement.specs.Automaton.{Bytes}
use Rattle.enforcement.specs.Loading.{LoadsUpTo, Checked}
use Rattle.enforcement.specs.History.{Call}
use Rattle.enforcement.specs.Widening.{scope_bound, ToldUpTo, loads, AsBefore}
use Rattle.enforcement.proofs.Loading.{loads_check}
use Rattle.enforcement.proofs.Widening.{told_once, as_before}
use Rattle.retimer.specs.declared.limits.Monitor.{Monitor}
use Rattle.retimer.specs.declared.state.Answer.{Answer}
use Rattle.retimer.specs.declared.monitor.Loaded.{Loaded}
use Rattle.retimer.specs.Calls.{LoadRight}
use Rattle.retimer.specs.Demand3.{Made, outcomes_of, CodeDemand3, BoxAsBefore}
use Rattle.retimer.proofs.Demand3.{code_demand_3}

pub box_as_before : (s : Bytes) (d : ℕ) → LoadsUpTo scope_bound s d → (r : Loaded) → LoadRight s d r → (ks : List Call) (xs : List Answer) (b : Monitor) → Made r.monitor ks xs b → BoxAsBefore s d r ks xs b
box_as_before s d h r f ks xs b m =
    let a : AsBefore s d = as_before s d h in
    let z : CodeDemand3 s d ks xs b = code_demand_3 s d r.monitor (f.fresh a.loads) ks xs b m in
    let e = loads_check s d a.loads in
    let t = subst⁻¹ (λ (k : Checked). ToldUpTo scope_bound s d ks k (outcomes_of xs) (some z.history)) (f.checked ∙ e) (loads (sym a.answer_same ∙ e) z.recorded) in
    record { history = z.history; told = t; only = λ k os h u. told_once scope_bound s d ks u t; stands = z.stands }
