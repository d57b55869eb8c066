-- `guarded::loads` meets its contract: the check's answer says that the sheet is well-formed.
-- Assumes nothing.
use Rattle.std.proofs.Common.{◌≡◌, true, Result, Ok, Err, refl, sym, ◌∙◌}
use Rattle.std.specs.Result.{is_ok}
use Rattle.enforcement.specs.Automaton.{Bytes}
use Rattle.enforcement.specs.Loading.{WellFormed, check}
use Rattle.retimer.specs.declared.reason.Reason.{Reason}
use Rattle.retimer.specs.declared.sheet.Counts.{Counts}
use Rattle.retimer.specs.Checked.{checked_of}
use Rattle.retimer.proofs.Loads.{accepted_loads}
use Rattle.layers.proofs.guarded.loads.Goals as goal

well_formed : (s : Bytes) (v : Result Counts Reason) → checked_of v ≡ check s 0 → is_ok v ≡ true → WellFormed s
well_formed s (Ok k) e h = accepted_loads s 0 (Ok k) k refl e
well_formed s (Err r) e h = cc

pub returns : goal.returns
returns c = λ e. well_formed c.args.s.now c.check.result c.check.ensures (sym c.is_ok.ensures.value ∙ e)
