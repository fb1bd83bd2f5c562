use Prim.Native.Nat.{◌≤◌, ◌-◌}
use Rattle.checker.proofs.Shared.{Enough}
use Rattle.checker.proofs.shares.first_short.Given as goal

abbrev pub invariant-loop-t : goal.invariant-loop-t
invariant-loop-t l = (l.t ≤ l.t-end) × Enough l.m l.fn.bundles l.sheet l.t

abbrev pub decreases-loop-t : goal.decreases-loop-t
decreases-loop-t l = l.t-end - l.t
