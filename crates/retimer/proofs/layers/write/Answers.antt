-- `layers::write` meets its contract. Assumes nothing.
use native.Mathlib.Omega.{arith}
use Rattle.enforcement.proofs.Loading.{pairs_fit}
use Rattle.retimer.proofs.LayingLocations.{ready_cleared, written_cleared, lay_begun, lay_inside, lay_fits, lay_rule, lay_ready, lay_next, lay_done}
use Rattle.retimer.proofs.layers.write.Goals as goal

pub word_at-first-requires : goal.word_at-first-requires
word_at-first-requires c = omega (arith, c.requires.1.0, pairs_fit c.args.s.now c.requires.0.loads)

pub word_at-requires : goal.word_at-requires
word_at-requires c = omega (arith, c.requires.1.0, pairs_fit c.args.s.now c.requires.0.loads)

pub loop-p-init : goal.loop-p-init
loop-p-init c =
    lay_begun c.requires.0 c.requires.1.0 (ready_cleared c.requires.1.1 c.clear.ensures) c.clear.ensures c.word_at-first.ensures.0 c.word_at.ensures.0

pub rule-requires : goal.rule-requires
rule-requires c =
    let b = ready_cleared c.requires.1.1 c.clear.ensures in
    let w = c.loop-p.invariant in
    (lay_rule c.requires.0 c.requires.1.0 b w (omega arith), ((lay_inside c.requires.0 c.requires.1.0 b w (omega arith), lay_fits c.requires.0 c.requires.1.0 b w (omega arith)), lay_ready c.requires.0 c.requires.1.0 b w))

pub loop-p-preserved : goal.loop-p-preserved
loop-p-preserved c =
    lay_next c.requires.0 c.requires.1.0 (ready_cleared c.requires.1.1 c.clear.ensures) c.loop-p.invariant (omega arith) c.rule.ensures

pub returns : goal.returns
returns c =
    let d = c.clear.ensures in
    written_cleared d (lay_done c.requires.0 c.requires.1.0 (ready_cleared c.requires.1.1 d) c.loop-p.invariant (omega arith))

pub returns-2 : goal.returns-2
returns-2 c =
    let d = c.clear.ensures in
    let b = ready_cleared c.requires.1.1 d in
    written_cleared d (lay_done c.requires.0 c.requires.1.0 b (lay_next c.requires.0 c.requires.1.0 b c.loop-p.invariant (omega arith) c.rule.ensures) (omega (arith, c.word_at-first.ensures.1, c.word_at.ensures.1)))
