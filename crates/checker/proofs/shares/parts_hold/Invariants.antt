use Prim.Native.Nat.{◌≤◌, ◌-◌}
use Rattle.kinds.specs.Valuations.{matroid_of}
use Rattle.checker.proofs.Shared.{Reached}
use Rattle.checker.proofs.shares.parts_hold.Given as goal

abbrev pub invariant-loop-part : goal.invariant-loop-part
invariant-loop-part l = (l.part-index ≤ l.part-index-end) × Reached (matroid_of l.m l.valuation) l.share l.fn.parts l.part-index

abbrev pub decreases-loop-part : goal.decreases-loop-part
decreases-loop-part l = l.part-index-end - l.part-index
