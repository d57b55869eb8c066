-- `convert::write` meets its contract: the records written and those that are left are the converted log.
-- Assumes nothing.
use Rattle.logs.proofs.Rest.{Written}
use Rattle.logs.proofs.convert.write.Given as goal

abbrev pub invariant-loop-k : goal.invariant-loop-k
invariant-loop-k l = Written l.f l.log l.out l.k l.before
