-- `lead::leads_saturated` meets its contract.
-- Assumes nothing.
use Rattle.retimer.proofs.SheetLaws.{failed, passed}
use Rattle.retimer.proofs.sets.Adding.{saturated_stops, saturated_leads}
use Rattle.retimer.proofs.sets.lead.leads_saturated.Goals as goal

pub returns-then-not-enabled : goal.returns-then-not-enabled
returns-then-not-enabled c = saturated_stops _ _ (failed c.enabled.ensures c.if-not-enabled.true)

pub returns : goal.returns
returns c = saturated_leads _ _ (passed c.enabled.ensures c.if-not-enabled.false) _ _ c.from.ensures c.leading-row.ensures
