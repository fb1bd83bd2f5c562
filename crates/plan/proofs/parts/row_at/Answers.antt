use Rattle.plan.proofs.Rows.{lent}
use Rattle.plan.proofs.parts.row_at.Goals as goal

pub returns : goal.returns
returns c = lent _ _
