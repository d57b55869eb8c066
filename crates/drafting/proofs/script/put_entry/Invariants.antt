-- `script::put_entry` meets its contract: the calls put and those that are left are the entry's.
-- Assumes nothing.
use Rattle.std.proofs.Common.{◌+◌, ◌-◌, ◌*◌}
use Rattle.drafting.specs.Scripts.{call_of, repeated}
use Rattle.drafting.proofs.Filling.{Filling}
use Rattle.drafting.proofs.script.put_entry.Given as goal

abbrev pub invariant-loop-k : goal.invariant-loop-k
invariant-loop-k l = Filling l.initial.out l.at (repeated l.n (call_of l.e)) (repeated (l.n - l.k) (call_of l.e)) l.out (l.at + 5 * l.k)
