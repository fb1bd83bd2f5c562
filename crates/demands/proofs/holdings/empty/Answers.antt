use Rattle.holding.proofs.Counting.{counted_right}
use Rattle.demands.proofs.holdings.empty.Goals as goal

pub returns : goal.returns
returns c = record { made = c.empty.ensures; right = rw c.empty.ensures (counted_right _ _ _ _) }
