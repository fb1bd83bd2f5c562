use Prim.Native.Nat.{◌≤◌, ◌-◌}
use mathlib.Core.Path.{◌≡◌}
use Rattle.checker.proofs.Divided.{counted_to}
use Rattle.checker.proofs.division.given.Given as goal

abbrev pub invariant-loop-bundle : goal.invariant-loop-bundle
invariant-loop-bundle l = (l.bundle-index ≤ l.bundle-index-end) × (l.count ≡ counted_to l.fn.bundles l.bundle-index)

abbrev pub decreases-loop-bundle : goal.decreases-loop-bundle
decreases-loop-bundle l = l.bundle-index-end - l.bundle-index
