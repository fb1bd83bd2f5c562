use mathlib.Core.Path.{◌∙◌}
use Rattle.loops.proofs.Joining.{carried_worth}
use Rattle.loops.proofs.worth.Goals as goal

pub returns : goal.returns
returns c = let (_, forest) = c.of-forest.ensures in c.size_below.ensures ∙ carried_worth _ _ _ _ _ c.requires forest
