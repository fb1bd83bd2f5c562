use borrow.Author.Rules.{rules}
use Rattle.sets.proofs.Choosing.{chosen_word}
use Rattle.plan.specs.Teams.{entries}
use Rattle.plan.proofs.Gluing.{entry_here}
use Rattle.plan.proofs.glue.marked.Goals as goal

pub returns : goal.returns
returns c = chosen_word _ (entries c.args.glue c.args.number) _ _ c.those.ensures (λ i b l k. search (rules, entry_here)) c.requires c.those.type_inv
