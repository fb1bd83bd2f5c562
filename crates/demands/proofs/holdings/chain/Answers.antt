use mathlib.Core.Path.{◌≡◌}
use lib.ListN.{length}
use borrow.Author.Rules.{rules}
use Rattle.demands.proofs.Moving.{chains}
use Rattle.demands.proofs.holdings.chain.Goals as goal

pub returns : goal.returns
returns c = let long : length c.args.h.owner ≡ 64 = search rules in rw c.chain.ensures.next (chains c.args.h c.args.moves long c.requires)
