-- `targets::of_all` meets its contract. The invariant: the set has the targets of the locations before l. Assumes nothing.
use native.Mathlib.Omega.{arith}
use mathlib.Core.Path.{sym, ◌∙◌}
use Prim.Native.Nat.{◌<◌}
use Rattle.enforcement.specs.Automaton.{locations}
use Rattle.enforcement.proofs.Loading.{header, pairs_fit}
use Rattle.enforcement.proofs.Tests.{true_false}
use Rattle.retimer.proofs.Entering.{all_begun, all_taken, all_passed, all_done}
use Rattle.retimer.proofs.targets.of_all.Goals as goal
use Rattle.retimer.proofs.targets.of_all.Goals.{then-has, else-has}

pub bounds-s-0 : goal.bounds-s-0
bounds-s-0 c = omega (arith, pairs_fit _ c.requires.0)

pub has-requires : goal.has-requires
has-requires c = omega (arith, c.from-l-end.ensures, (header _ c.requires.0).locations_fit)

pub loop-l-preserved : goal.loop-l-preserved
loop-l-preserved c =
    let w = c.loop-l.invariant in
    let i : c.loop-l.l < locations c.args.s.now = omega (arith, c.from-l-end.ensures, c.loop-l-test.true) in
    elim c.if-has.branch [
      | then-has t ↦ rw t.found-is (all_taken w i (sym c.has.ensures ∙ t.if-has.true) t.of-found.ensures)
      | else-has t ↦ rw t.found-is (all_passed w i (λ h. true_false h (sym c.has.ensures ∙ t.if-has.false)))
    ]

pub returns : goal.returns
returns c = all_done c.loop-l.invariant c.requires.0 c.requires.1 (omega (arith, c.from-l-end.ensures, c.loop-l-test.false))
