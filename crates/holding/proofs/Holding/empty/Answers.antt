use Rattle.holding.proofs.Counting.{empty_sizes}
use Rattle.holding.proofs.Holding.empty.Goals as goal

pub of-requires : goal.of-requires
of-requires c = empty_sizes _ _
