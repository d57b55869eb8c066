-- `guarded::stands` meets its contract: a sheet that loads has a header.
-- Assumes nothing.
use Rattle.std.proofs.Common.{arith}
use Rattle.enforcement.proofs.Loading.{size_fits}
use Rattle.layers.proofs.guarded.stands.Goals as goal

pub bounds-s-0 : goal.bounds-s-0
bounds-s-0 c = omega (arith, size_fits c.args.s.now (c.loads.ensures c.if-not-loads.false))

pub bounds-s-1 : goal.bounds-s-1
bounds-s-1 c = omega (arith, size_fits c.args.s.now (c.loads.ensures c.if-not-loads.false))
