-- `line::put_refused` meets its contract: the reason follows the word.
-- Assumes nothing.
use native.Mathlib.Omega.{arith}
use Rattle.retimer.proofs.Writing.{next}
use Rattle.report.proofs.line.put_refused.Goals as goal

pub returns : goal.returns
returns c = next (omega arith) c.put-word.ensures c.put_reason.ensures
