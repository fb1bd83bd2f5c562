use Rattle.demands.proofs.Ranking.{values, worth_case}
use Rattle.demands.proofs.worth.Goals as goal

pub returns : goal.returns
returns c = record { two = values _ _ _ _ c.worth.ensures.told; case = worth_case _ _ _ _ c.worth.ensures.answer }
