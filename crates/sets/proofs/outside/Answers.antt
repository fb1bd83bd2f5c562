use Rattle.sets.proofs.Below.{outside_size}
use Rattle.sets.proofs.outside.Goals as goal

pub returns : goal.returns
returns c = outside_size _ _ _ _ _ c.requires c.all_below.ensures c.minus.ensures c.size.ensures
