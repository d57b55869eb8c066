-- `diagonals::count_location` meets its contract. A whole location has nothing to count. Assumes nothing.
use Rattle.retimer.proofs.sets.Counting.{whole_counted, location_counted}
use mathlib.Core.Path.{sym, ◌∙◌}
use Rattle.retimer.proofs.sets.diagonals.count_location.Goals as goal

pub returns-then-has_saturated : goal.returns-then-has_saturated
returns-then-has_saturated c = whole_counted c.requires (sym c.has_saturated.ensures ∙ c.if-has_saturated.true)

pub returns : goal.returns
returns c = location_counted c.requires c.count_rows.ensures c.highest-highest.ensures
