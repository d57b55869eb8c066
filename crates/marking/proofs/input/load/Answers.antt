-- `input::load` meets its contract: the part of the input that is loaded is the sheet.
-- Assumes nothing.
use Rattle.std.proofs.Common.{◌≡◌, ℕ, ◌+◌, ◌-◌, ◌≤◌, length, take, drop, arith, subst}
use borrow.Author.Tests.{le-ltb}
use Rattle.enforcement.specs.Automaton.{Bytes}
use Rattle.retimer.specs.Calls.{LoadRight}
use Rattle.marking.specs.Marks.{size_in, sheet_in}
use Rattle.marking.proofs.input.load.Goals as goal

sheet_some : (s : Bytes) (n : ℕ) → n ≡ size_in s → 2 + n ≤ length s → take (2 + n - 2) (drop 2 s) ≡ sheet_in s
sheet_some s n e h = let z : 2 + n - 2 ≡ n = omega arith in rw (z, ← e, le-ltb (length s) (2 + n) h)

pub returns : goal.returns
returns c = subst (λ (x : Bytes). LoadRight x c.args.loaded c.load-2.result) (sheet_some c.args.input.now c.size_in-end.result c.size_in-end.ensures.0 (omega (arith, c.if-input-end.false))) c.load-2.ensures
