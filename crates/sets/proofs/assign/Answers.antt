use Rattle.sets.proofs.Assigning.{assigning_none, assigning_done, assigning_next}
use borrow.Author.Rules.{rules}
use Rattle.sets.proofs.assign.Goals as goal

pub loop-k-init : goal.loop-k-init
loop-k-init c = rw (c.into_iter-k-iterator.ensures.into_iter_gives, c.members-k-items.ensures) (assigning_none _ _ _)

pub loop-k-preserved : goal.loop-k-preserved
loop-k-preserved c = let next = c.in-Some.ensures.steps in assigning_next _ _ _ _ _ _ c.loop-k.invariant next.low c.requires next.some _ next.is

pub returns : goal.returns
returns c = assigning_done _ _ _ _ _ _ c.loop-k.invariant c.in-None.ensures.steps.0 (search rules)
