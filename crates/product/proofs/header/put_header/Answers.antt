-- `header::put_header` meets its contract: each number fits a byte.
-- Assumes nothing.
use mathlib.Core.Path.{ap, ◌∙◌}
use native.Mathlib.Omega.{arith}
use Rattle.enforcement.proofs.Loading.{size_fits}
use Rattle.product.specs.Encoding.{word_bytes}
use Rattle.retimer.proofs.Writing.{as_part}
use Rattle.product.proofs.Headers.{word_is, initial_below, header_is}
use Rattle.product.proofs.header.put_header.Goals as goal

pub bounds-first-0 : goal.bounds-first-0
bounds-first-0 c = omega (arith, (size_fits c.args.first.now c.requires.0.first).0)

pub bounds-second-0 : goal.bounds-second-0
bounds-second-0 c = omega (arith, (size_fits c.args.second.now c.requires.0.second).0)

pub bounds-first-1 : goal.bounds-first-1
bounds-first-1 c = omega (arith, (size_fits c.args.first.now c.requires.0.first).0)

pub bounds-second-1 : goal.bounds-second-1
bounds-second-1 c = omega (arith, (size_fits c.args.second.now c.requires.0.second).0)

pub bounds-first-2 : goal.bounds-first-2
bounds-first-2 c = omega (arith, (size_fits c.args.first.now c.requires.0.first).0)

pub bounds-first-3 : goal.bounds-first-3
bounds-first-3 c = omega (arith, (size_fits c.args.first.now c.requires.0.first).0)

pub bounds-second-0-2 : goal.bounds-second-0-2
bounds-second-0-2 c = omega (arith, (size_fits c.args.second.now c.requires.0.second).0)

pub overflow_mul-header-2 : goal.overflow_mul-header-2
overflow_mul-header-2 c = omega (arith, initial_below c.requires.0)

pub bounds-second-3 : goal.bounds-second-3
bounds-second-3 c = omega (arith, (size_fits c.args.second.now c.requires.0.second).0)

pub overflow_add-header-2 : goal.overflow_add-header-2
overflow_add-header-2 c = omega (arith, initial_below c.requires.0)

pub returns : goal.returns
returns c =
    let a = c.args in
    let e = c.to_le_bytes.ensures ∙ word_is _ c.accepting_set.ensures.1 ∙ ap word_bytes c.accepting_set.ensures.0 in
    as_part c.put.ensures (header_is a.first.now a.second.now c.to_le_bytes.result e)
