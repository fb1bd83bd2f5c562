use Prim.Native.Nat.{◌*◌, ◌≤◌}
use mathlib.Core.Path.{◌≡◌}
use lib.ListN.{get_or}
use Rattle.matroid.specs.Sum.{sum as sum_of}
use Rattle.holding.proofs.Holding.total.Given as goal

abbrev pub invariant-loop-size : goal.invariant-loop-size
invariant-loop-size l = (l.sum ≡ sum_of l.size-index (λ u. get_or l.fn.self.sizes u 0)) × (l.sum ≤ l.size-index * 255)
