use Prim.Native.Nat.{◌≤◌, ◌-◌}
use mathlib.Core.Path.{◌≡◌}
use Rattle.kinds.specs.Valuations.{matroids}
use Rattle.checker.proofs.Divided.{bound_to}
use Rattle.checker.proofs.division.bound.Given as goal

abbrev pub invariant-loop-valuation : goal.invariant-loop-valuation
invariant-loop-valuation l = (l.valuation-index ≤ l.valuation-index-end) × (l.sum ≡ bound_to (matroids l.m l.fn.valuations) l.set l.valuation-index)

abbrev pub decreases-loop-valuation : goal.decreases-loop-valuation
decreases-loop-valuation l = l.valuation-index-end - l.valuation-index
