use Rattle.demands.proofs.Desking.{desk_checks}
use Rattle.demands.proofs.desks.check.Goals as goal

pub returns : goal.returns
returns c = desk_checks _ _ _ c.pool_check.ensures
