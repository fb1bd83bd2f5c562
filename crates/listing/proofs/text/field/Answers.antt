use native.Mathlib.Omega.{arith}
use Rattle.listing.specs.Text.{field}
use Rattle.listing.proofs.Pouring.{◌then◌}
use Rattle.listing.proofs.text.field.Goals as goal

pub returns : goal.returns
unfolding field
returns c = record { put = c.word-next.ensures then c.decimal.ensures.put; short = let e = c.word-next.ensures.end in let l = c.decimal.ensures.short in omega arith }
