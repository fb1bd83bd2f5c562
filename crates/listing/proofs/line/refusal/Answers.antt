use Rattle.listing.specs.Listing.{refusal_line}
use Rattle.listing.proofs.Pouring.{◌then◌}
use Rattle.listing.proofs.line.refusal.Goals as goal

pub returns : goal.returns
unfolding refusal_line
returns c = c.field-next.ensures.put then (c.field-next-2.ensures.put then c.word.ensures)
