use Prim.Native.Nat.{◌≤◌, ◌-◌, ◌+◌, ◌*◌}
use Rattle.matroid.specs.Cuts.{each}
use Rattle.sets.specs.Bits.{bit}
use Rattle.sheet.specs.Form.{page}
use Rattle.sheet.proofs.Faults.{Passes}
use Rattle.sheet.proofs.form.pages.Given as goal

abbrev pub invariant-loop-t : goal.invariant-loop-t
invariant-loop-t l = (l.t ≤ l.n) × Passes (each l.t (page l.m l.p (bit l.here))) l.sheet (4 + 3 * l.m + 9)

abbrev pub decreases-loop-t : goal.decreases-loop-t
decreases-loop-t l = l.n - l.t
