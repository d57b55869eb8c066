-- `sheet::retimer_sheets_join` meets its contract: a length that is answered is short.
-- Assumes nothing.
use Rattle.exports.proofs.SheetResults.{answer_short}
use Rattle.exports.proofs.sheet.retimer_sheets_join.Goals as goal

pub join_result-requires : goal.join_result-requires
join_result-requires c = answer_short c.join.result c.join.ensures
