use mathlib.Core.Path.{◌≡◌}
use lib.ListN.{length}
use borrow.Author.Rules.{rules}
use Rattle.demands.proofs.Moving.{returns as moves}
use Rattle.demands.proofs.holdings.give_back.Goals as goal

pub returns : goal.returns
returns c = let long : length c.args.h.owner ≡ 64 = search rules in rw c.give_back.ensures.next (moves c.args.h c.args.g long c.requires)
