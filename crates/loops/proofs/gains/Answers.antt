use Rattle.loops.proofs.Joining.{free_chosen, apart_here, loops_gains}
use borrow.Author.Rules.{rules}
use Rattle.loops.proofs.gains.Goals as goal

pub returns : goal.returns
returns c = let (_, forest) = c.of-forest.ensures in
    loops_gains _ _ _ _ _ c.requires forest _ _ (free_chosen _ _ _ _ _ c.those-free.ensures (λ g b l k. search (rules, apart_here))) c.minus.ensures
