use Rattle.demands.proofs.Desking.{desk_values}
use Rattle.demands.proofs.desks.worth.Goals as goal

pub returns : goal.returns
returns c = desk_values _ _ _ _ c.pool_worth.ensures
