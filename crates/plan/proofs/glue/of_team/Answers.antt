use Rattle.plan.proofs.Gluing.{word_none}
use Rattle.plan.proofs.glue.of_team.Goals as goal

pub returns-then-all-eq0 : goal.returns-then-all-eq0
returns-then-all-eq0 c = let pre = c.requires in word_none c.args.glue _ _ _ pre.0 pre.1 pre.2 c.if-all-eq0.true
