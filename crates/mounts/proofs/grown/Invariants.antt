use Rattle.mounts.specs.Matching.{fits_in}
use Rattle.mounts.proofs.Growth.{Grows}
use Rattle.mounts.proofs.grown.Given as goal

abbrev pub invariant-loop-g : goal.invariant-loop-g
invariant-loop-g l = Grows (fits_in l.begun.fits) l.m l.set l.from l.most l.held l.larger l.g-iterator.left l.room
