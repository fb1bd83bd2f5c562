use Rattle.demands.proofs.Paging.{pages}
use Rattle.demands.proofs.page.Goals as goal

pub returns : goal.returns
returns c = pages _ _ _ _ c.page.ensures
