-- `layers::lower_row` meets its contract. Assumes nothing.
use borrow.Author.Rules.{rules}
use Rattle.retimer.proofs.layers.lower_row.Goals as goal

pub returns-then-spread : goal.returns-then-spread
returns-then-spread c = c.lower_by.ensures _ (λ i v p. search rules)

pub returns : goal.returns
returns c = c.lower_by-2.ensures _ (λ i v p. search rules)
