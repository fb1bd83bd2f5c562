use lib.ListN.{get_or}
use Rattle.matroid.specs.Set.{size}
use Rattle.sets.specs.Bits.{bit}
use Rattle.sets.proofs.Each.{Tabled}
use Rattle.engine.proofs.greedy.sizes_of.Given as goal

abbrev pub invariant-loop-t : goal.invariant-loop-t
invariant-loop-t l = Tabled 12 (λ u. size 64 (bit (get_or l.fn.bundles u 0))) 0 l.t l.sizes
