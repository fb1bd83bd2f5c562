use Prim.Native.Nat.{◌-◌, ◌≤◌}
use Rattle.sets.specs.Bits.{bit}
use Rattle.kinds.specs.Valuations.{matroids}
use Rattle.checker.proofs.Shared.{Shown}
use Rattle.checker.proofs.shares.first_wrong.Given as goal

abbrev pub invariant-loop-t : goal.invariant-loop-t
invariant-loop-t l = (l.t ≤ l.t-end) × Shown l.fn.n (bit l.here) (matroids l.m l.fn.valuations) l.sheet l.t

abbrev pub decreases-loop-t : goal.decreases-loop-t
decreases-loop-t l = l.t-end - l.t
