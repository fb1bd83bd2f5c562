use Rattle.demands.proofs.Paging.{desk_pages}
use Rattle.demands.proofs.desks.page.Goals as goal

pub returns : goal.returns
returns c = desk_pages _ _ _ _ c.pool_page.ensures
