use native.Mathlib.Omega.{arith}
use Rattle.listing.specs.Listing.{holdings}
use Rattle.listing.proofs.Pouring.{◌then◌}
use Rattle.listing.proofs.line.holdings.Goals as goal

pub returns : goal.returns
unfolding holdings
returns c = record { put = c.word-next.ensures then (c.instruments-next.ensures.put then c.word.ensures); short = let e = c.word-next.ensures.end in let l = c.instruments-next.ensures.short in let f = c.word.ensures.end in omega arith }
