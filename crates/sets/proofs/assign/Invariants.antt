use Rattle.sets.proofs.Assigning.{Assigning}
use Rattle.sets.proofs.assign.Given as goal

abbrev pub invariant-loop-k : goal.invariant-loop-k
invariant-loop-k l = Assigning l.initial.table l.set l.value l.k-iterator.left l.table
