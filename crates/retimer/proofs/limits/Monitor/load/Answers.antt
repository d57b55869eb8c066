-- `Monitor::load` meets its contract, by what the check answered.
-- Assumes nothing.
use mathlib.Core.Path.{refl}
use Rattle.retimer.proofs.Loads.{accepted_loads, refused_loads}
use Rattle.retimer.proofs.limits.Monitor.load.Goals as goal

pub fresh-requires : goal.fresh-requires
fresh-requires c = let a = c.args in accepted_loads a.s.now a.loaded _ _ refl c.in-Ok.ensures

pub returns-in-Ok : goal.returns-in-Ok
returns-in-Ok c =
    let a = c.args in
    let l = accepted_loads a.s.now a.loaded _ _ refl c.in-Ok.ensures in
    record { checked = c.check-checked.ensures; fresh = λ m. c.fresh.ensures; no_box = λ n. absurd (n l) }

pub returns-in-Err : goal.returns-in-Err
returns-in-Err c =
    let a = c.args in
    record { checked = c.check-checked.ensures; fresh = λ l. absurd (refused_loads a.s.now a.loaded _ _ refl c.in-Err.ensures l); no_box = λ n. c.nothing.ensures }
