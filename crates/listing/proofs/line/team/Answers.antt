use native.Mathlib.Omega.{arith}
use borrow.Author.Rules.{rules}
use Rattle.listing.specs.Listing.{team_line}
use Rattle.listing.proofs.Pouring.{◌then◌}
use Rattle.listing.proofs.Lining.{share_told, gives_before}
use Rattle.listing.proofs.line.team.Goals as goal

pub holdings-requires : goal.holdings-requires
holdings-requires c = (search rules, omega arith, search rules, gives_before _ c.args.t _ c.requires.3)

pub returns : goal.returns
unfolding team_line
returns c = record { put = c.field-next.ensures.put then (share_told c.args.sheet.now _ _ _ _ c.share_start.ensures c.wide-share.ensures c.field-next-2.ensures.put then c.holdings.ensures.put); short = let l = c.field-next.ensures.short in let k = c.field-next-2.ensures.short in let j = c.holdings.ensures.short in omega arith }
