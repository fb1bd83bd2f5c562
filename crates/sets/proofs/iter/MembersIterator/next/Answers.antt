use Rattle.sets.proofs.Through.{fewer}
use borrow.Author.Rules.{rules}
use Rattle.sets.proofs.iter.MembersIterator.next.Goals as goal

pub returns-clause-goes : goal.returns-clause-goes
returns-clause-goes c = let (low, some) = c.in_ok-k.ensures in let less = fewer _ _ _ low some c.without-self.ensures in search rules
