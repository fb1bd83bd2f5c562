use mathlib.Core.Bool.{not}
use mathlib.Core.Path.{ap}
use Rattle.holding.specs.Give.{in_pool}
use Rattle.holding.proofs.Holding.in_pool.Goals as goal

pub returns : goal.returns
unfolding in_pool
returns c = rw (← c.holder.ensures) (ap not c.is_team.ensures)
