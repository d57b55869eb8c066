-- The declared comparisons as the definitions have them.
use Rattle.enforcement.specs.Comparison.{at_least, exactly, at_most, between}
use Rattle.enforcement.specs.Comparison as model
use Rattle.retimer.specs.declared.comparison.Comparison.{Comparison}
use Rattle.retimer.specs.declared.comparison.Comparison.TheVariants.{AtLeast, Exactly, AtMost, Between}

-- The case that a declared one stands for.
abbrev pub comparison_of : Comparison → model.Comparison
comparison_of AtLeast = at_least
comparison_of Exactly = exactly
comparison_of AtMost = at_most
comparison_of Between = between
