use Rattle.sets.specs.Bits.{bit}
use Rattle.caps.specs.Counts.{Counts}
use Rattle.sets.proofs.Through.{Through}
use Rattle.caps.proofs.class_counts.Given as goal

abbrev pub invariant-loop-g : goal.invariant-loop-g
invariant-loop-g l = Through (bit l.set) l.m l.g-iterator.left (λ n. Counts l.class n (bit l.set) l.counts)
