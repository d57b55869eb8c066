-- `line::refused_line` meets its contract: the reason follows the words.
-- Assumes nothing.
use native.Mathlib.Omega.{arith}
use Rattle.retimer.specs.Reasons.{reason_of}
use Rattle.retimer.proofs.Writing.{next}
use Rattle.report.proofs.LineLaws.{reason_three}
use Rattle.report.proofs.line.refused_line.Goals as goal

pub returns : goal.returns
returns c = next (omega (arith, reason_three (reason_of c.args.r))) (next (omega arith) c.put-word.ensures c.put_reason-reason.ensures) c.put.ensures
