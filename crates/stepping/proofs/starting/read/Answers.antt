use Rattle.holding.proofs.Counting.{counted_right}
use Rattle.stepping.proofs.starting.read.Goals as goal

pub returns : goal.returns
returns c = rw c.counted.ensures (counted_right _ _ _ _)
