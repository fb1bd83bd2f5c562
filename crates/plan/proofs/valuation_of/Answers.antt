use Rattle.plan.proofs.Valuing.{valued_lem}
use Rattle.plan.proofs.valuation_of.Goals as goal

pub returns : goal.returns
returns c = valued_lem c.args.r.now c.requires.valid _ c.requires.team _ _ _ _ _ c.requires.usable c.requires.all c.minus.type_inv c.minus.ensures c.of_team.ensures
