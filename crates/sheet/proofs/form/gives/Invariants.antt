use Prim.Native.Nat.{◌≤◌, ◌-◌}
use Rattle.matroid.specs.Cuts.{each}
use Rattle.sheet.specs.Form.{give}
use Rattle.sheet.proofs.Faults.{Passes}
use Rattle.sheet.proofs.form.gives.Given as goal

abbrev pub invariant-loop-g : goal.invariant-loop-g
invariant-loop-g l = (l.g ≤ l.m) × Passes (each l.g (give l.n)) l.sheet 4

abbrev pub decreases-loop-g : goal.decreases-loop-g
decreases-loop-g l = l.m - l.g
