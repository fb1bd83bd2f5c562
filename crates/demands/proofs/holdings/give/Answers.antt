use mathlib.Core.Path.{◌≡◌}
use lib.ListN.{length}
use borrow.Author.Rules.{rules}
use Rattle.demands.proofs.Moving.{gives}
use Rattle.demands.proofs.holdings.give.Goals as goal

pub returns : goal.returns
returns c = let long : length c.args.h.owner ≡ 64 = search rules in rw c.give.ensures.next (gives c.args.h c.args.g c.args.t long c.requires)
