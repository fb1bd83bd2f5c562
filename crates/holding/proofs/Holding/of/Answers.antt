use Rattle.holding.proofs.Counting.{of_counted}
use Rattle.holding.proofs.Holding.of.Goals as goal

pub returns : goal.returns
returns c = of_counted _ _ _ _ _ _ c.requires c.shortfall_of.ensures
