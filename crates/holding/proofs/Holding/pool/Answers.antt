use Rattle.sets.proofs.Choosing.{chosen_bits}
use Rattle.holding.specs.Give.{in_pool}
use Rattle.holding.proofs.Words.{pool_all}
use borrow.Author.Rules.{rules}
use Rattle.holding.proofs.Holding.pool.Goals as goal

pub returns : goal.returns
returns c = let self = c.args.self in
    pool_all self _ _ c.instruments.ensures (chosen_bits _ (in_pool self) _ _ c.those.ensures (λ i b l k. search rules))
