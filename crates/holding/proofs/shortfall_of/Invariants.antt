use Prim.Native.Nat.{◌*◌, ◌≤◌}
use mathlib.Core.Path.{◌≡◌}
use lib.ListN.{length, get_or}
use Rattle.matroid.specs.Shortfall.{shortfall}
use Rattle.holding.proofs.shortfall_of.Given as goal

abbrev pub invariant-loop-share : goal.invariant-loop-share
invariant-loop-share l = (l.sum ≡ shortfall (length l.yielded) (λ u. get_or l.fn.shares u 0) (λ u. get_or l.fn.sizes u 0)) × (l.sum ≤ length l.yielded * 255)
