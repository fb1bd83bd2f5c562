use Rattle.plan.proofs.Gluing.{yes_worth}
use Rattle.plan.proofs.glue.stands.Goals as goal

pub returns : goal.returns
returns c = yes_worth _ _ _ _ c.worth_of.ensures c.size_below.ensures
