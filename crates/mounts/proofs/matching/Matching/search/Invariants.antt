use Prim.Native.Nat.{◌-◌}
use Rattle.matroid.specs.Set.{size}
use Rattle.sets.specs.Bits.{bit}
use Rattle.mounts.specs.Matching.{fits_in, Leads}
use Rattle.mounts.proofs.matching.Matching.search.Given as goal

abbrev pub invariant-loop-larger : goal.invariant-loop-larger
invariant-loop-larger l = Leads (fits_in l.fits) l.self l.s

abbrev pub decreases-loop-larger : goal.decreases-loop-larger
decreases-loop-larger l = 64 - size 64 (bit l.s.set)
