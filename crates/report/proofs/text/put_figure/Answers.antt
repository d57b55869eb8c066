-- `text::put_figure` meets its contract: the number follows the word.
-- Assumes nothing.
use native.Mathlib.Omega.{arith}
use Rattle.retimer.proofs.Writing.{next}
use Rattle.report.proofs.text.put_figure.Goals as goal

pub returns : goal.returns
returns c = next (omega arith) c.put-end.ensures c.put_number.ensures
