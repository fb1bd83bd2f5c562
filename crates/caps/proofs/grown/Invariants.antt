use Rattle.sets.specs.Bits.{bit}
use Rattle.caps.specs.Partition.{caps_of}
use Rattle.caps.specs.Counts.{Counts}
use Rattle.sets.proofs.Growing.{Growing}
use Rattle.caps.proofs.grown.Given as goal

abbrev pub invariant-loop-g : goal.invariant-loop-g
invariant-loop-g l = Growing (caps_of l.m l.class l.cap) l.set l.from l.most l.larger l.g-iterator.left l.room (Counts l.class l.m (bit l.larger) l.counts)
