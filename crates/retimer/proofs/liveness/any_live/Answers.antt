-- `liveness::any_live` meets its contract. Assumes nothing.
use native.Mathlib.Omega.{arith}
use Rattle.enforcement.proofs.Loading.{size_fits}
use Rattle.retimer.proofs.Outlooks.{live_met}
use Rattle.retimer.proofs.liveness.any_live.Goals as goal

pub meets-requires : goal.meets-requires
meets-requires c =
    let a = c.requires in
    record { long = omega (arith, size_fits _ a.loads); fits = a.table.fits; counts_sized = a.table.sized; reached = a.reached }

pub returns : goal.returns
returns c =
    let a = c.requires in
    let w = live_met a.table a.reached in
    (λ e. w.0 (c.meets.ensures.0 e), λ v. c.meets.ensures.1 (w.1 v))
