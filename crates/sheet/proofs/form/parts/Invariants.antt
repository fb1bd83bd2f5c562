use Prim.Native.Nat.{◌≤◌, ◌-◌}
use Rattle.matroid.specs.Cuts.{each}
use Rattle.sheet.specs.Form.{part}
use Rattle.sheet.proofs.Faults.{Passes}
use Rattle.sheet.proofs.form.parts.Given as goal

abbrev pub invariant-loop-g : goal.invariant-loop-g
invariant-loop-g l = (l.g ≤ l.m) × Passes (each l.g (part l.p)) l.sheet l.at

abbrev pub decreases-loop-g : goal.decreases-loop-g
decreases-loop-g l = l.m - l.g
