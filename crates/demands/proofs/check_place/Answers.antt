use mathlib.Core.Path.{◌∙◌}
use Rattle.demands.proofs.check_place.Goals as goal

pub returns : goal.returns
returns c = c.place.ensures ∙ c.check.ensures.told.place
