use Rattle.sets.specs.Bits.{bit}
use Rattle.sets.proofs.Through.{Through}
use Rattle.mounts.specs.Matching.{fits_in}
use Rattle.mounts.proofs.Greatest.{Upto}
use Rattle.mounts.proofs.matching.Matching.greatest.Given as goal

abbrev pub invariant-loop-g : goal.invariant-loop-g
invariant-loop-g l = Through (bit l.set) l.m l.g-iterator.left (Upto (fits_in l.fits) l.m (bit l.set) l.held)
