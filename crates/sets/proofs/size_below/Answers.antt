use Rattle.sets.proofs.Below.{below_size}
use Rattle.sets.proofs.size_below.Goals as goal

pub returns : goal.returns
returns c = below_size _ _ _ _ _ c.requires c.all_below.ensures c.both.ensures c.size.ensures
