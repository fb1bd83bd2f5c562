use Rattle.team.specs.Team.{joints}
use borrow.Author.Rules.{rules}
use Rattle.loops.proofs.groups.Groups.alone.Goals as goal

pub returns : goal.returns
unfolding joints
returns c = λ j l. let (_, _, called) = c.from_fn.ensures.items.at j 0 l in search rules
