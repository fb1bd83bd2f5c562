use borrow.Author.Rules.{rules}
use Rattle.days.proofs.Holding.{usable_here}
use Rattle.sets.proofs.Choosing.{chosen_word}
use Rattle.days.specs.Days.{usable_on}
use Rattle.days.proofs.usable.Goals as goal

pub returns : goal.returns
returns c = chosen_word _ (usable_on c.args.shelf c.args.days) _ _ c.those.ensures (λ i b l k. search (rules, usable_here)) c.requires c.those.type_inv
