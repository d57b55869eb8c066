-- `convert::check_records` meets its contract: what the records that are left answer is what all of them do.
-- Assumes nothing.
use mathlib.Core.Path.{◌≡◌}
use Prim.Native.Nat.{◌≤◌}
use Rattle.enforcement.specs.Limits.{max_date}
use Rattle.logs.specs.Conversion.{check_from, dates_in}
use Rattle.logs.proofs.Rest.{check_rest}
use Rattle.logs.proofs.convert.check_records.Given as goal

abbrev pub invariant-loop-k : goal.invariant-loop-k
invariant-loop-k l = (l.before ≤ max_date) × (check_rest l.f l.log l.k l.before ≡ check_from 0 0 (dates_in l.f l.log))
