use Rattle.demands.proofs.Listing.{lines}
use Rattle.demands.proofs.listings.refusal.Goals as goal

pub returns : goal.returns
returns c = let e = c.refusal.ensures in lines _ _ _ _ _ e.answer e.bytes
