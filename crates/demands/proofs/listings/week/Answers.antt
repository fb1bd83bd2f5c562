use Rattle.demands.proofs.Listing.{prints}
use Rattle.demands.proofs.listings.week.Goals as goal

pub returns : goal.returns
returns c = prints _ _ _ _ c.week.ensures
