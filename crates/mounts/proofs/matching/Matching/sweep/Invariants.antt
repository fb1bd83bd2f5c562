use Rattle.mounts.specs.Matching.{fits_in}
use Rattle.mounts.proofs.Sweeping.{Sweeping}
use Rattle.mounts.proofs.matching.Matching.sweep.Given as goal

abbrev pub invariant-loop-c : goal.invariant-loop-c
invariant-loop-c l = Sweeping (fits_in l.fits) l.self l.s.set l.larger l.c-iterator.left
