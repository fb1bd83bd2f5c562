use Rattle.demands.proofs.Desking.{desk_lists}
use Rattle.demands.proofs.desks.list.Goals as goal

pub returns : goal.returns
returns c = let e = c.pool_list.ensures in desk_lists _ _ _ _ _ e.answer e.bytes
