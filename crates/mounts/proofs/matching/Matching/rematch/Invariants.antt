use mathlib.Core.Path.{◌≡◌}
use lib.ListN.{get_or}
use Rattle.sets.specs.Bits.{bit}
use Rattle.mounts.specs.Matching.{fits_in, Leads}
use Rattle.mounts.proofs.Reaching.{Moving}
use Rattle.mounts.proofs.matching.Matching.rematch.Given as goal

abbrev pub invariant-loop-s : goal.invariant-loop-s
invariant-loop-s l = Leads (fits_in l.fits) l.initial.self l.s × Moving (fits_in l.fits) l.initial.self l.s (bit l.initial.self.taken) l.self.on l.mover l.at × (l.self.free ≡ l.initial.self.free) × (l.self.taken ≡ l.initial.self.taken)

abbrev pub decreases-loop-s : goal.decreases-loop-s
decreases-loop-s l = get_or l.s.depth l.at 0
