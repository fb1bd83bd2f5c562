use Rattle.mounts.proofs.Sweeping.{meets_by}
use borrow.Author.Rules.{rules}
use Rattle.mounts.proofs.matching.meet.Goals as goal

pub returns : goal.returns
returns c = meets_by _ _ _ (search rules) c.both.ensures
