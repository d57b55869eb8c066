-- `join::check` meets its contract: the first sheet's own refusal, the second's, and then what both give.
-- Assumes nothing.
use mathlib.Core.Path.{◌≡◌}
use Rattle.std.specs.Prelude.{Ok}
use native.Mathlib.Omega.{arith}
use Rattle.retimer.proofs.Loads.{accepted_loads}
use Rattle.product.proofs.join.check.Goals as goal

pub fitting-requires : goal.fitting-requires
fitting-requires c =
    let a = c.args in
    let x : c.check.result ≡ Ok c.in_ok-map_err.field-0 = grind arith in
    let y : c.check-2.result ≡ Ok c.in_ok-map_err-2.field-0 = grind arith in
    (accepted_loads a.first.now 0 _ _ x c.check.ensures, accepted_loads a.second.now 0 _ _ y c.check-2.ensures)
