use Rattle.demands.proofs.Listing.{lists}
use Rattle.demands.proofs.listings.list.Goals as goal

pub returns : goal.returns
returns c = let e = c.list.ensures in lists _ _ _ _ _ e.answer e.bytes
