use Prim.Native.Nat.{◌≤◌, ◌-◌}
use Rattle.sets.specs.Bundles.{Bundles}
use Rattle.sheet.specs.Named.{named}
use Rattle.sheet.proofs.words.Given as goal

abbrev pub invariant-loop-g : goal.invariant-loop-g
invariant-loop-g l = (l.g ≤ l.m) × Bundles l.g (named l.row) l.words

abbrev pub decreases-loop-g : goal.decreases-loop-g
decreases-loop-g l = l.m - l.g
