use native.Mathlib.Omega.{arith}
use borrow.Author.Rules.{rules}
use Rattle.listing.specs.Listing.{listing}
use Rattle.listing.proofs.Pouring.{◌then◌}
use Rattle.listing.proofs.Lining.{head_before, total_told}
use Rattle.listing.proofs.line.listing.Goals as goal

pub bounds-sheet-3 : goal.bounds-sheet-3
bounds-sheet-3 c = let l = (head_before _ c.args.n _ c.requires.2).0 in omega arith

pub holdings-requires : goal.holdings-requires
holdings-requires c = (search rules, omega arith, search rules, (head_before _ c.args.n _ c.requires.2).1)

pub returns : goal.returns
unfolding listing
returns c = total_told c.args.sheet.now _ c.wide.ensures c.field-next.ensures.put then (c.word-next.ensures then (c.teams-next.ensures.put then c.holdings.ensures.put))
