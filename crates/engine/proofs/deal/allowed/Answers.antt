use native.Mathlib.Omega.{arith}
use Rattle.engine.proofs.Dealing.{allowed_by}
use Rattle.engine.proofs.deal.allowed.Goals as goal

pub overflow_add-result : goal.overflow_add-result
overflow_add-result c = let small = (allowed_by c.args.m c.args.n c.args.v c.args.set _ _ c.requires.0 c.requires.1 c.outside.ensures c.worth_of.ensures).small in omega arith

pub returns : goal.returns
returns c = allowed_by _ _ _ _ _ _ c.requires.0 c.requires.1 c.outside.ensures c.worth_of.ensures
