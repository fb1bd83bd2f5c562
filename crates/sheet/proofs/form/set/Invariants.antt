use Prim.Native.Nat.{◌≤◌, ◌-◌}
use Rattle.sheet.specs.Form.{set_byte}
use Rattle.sheet.proofs.Commands.{BytesPass}
use Rattle.sheet.proofs.form.set.Given as goal

abbrev pub invariant-loop-k : goal.invariant-loop-k
invariant-loop-k l = (l.k ≤ 8) × BytesPass (set_byte l.m) l.sheet l.at l.k

abbrev pub decreases-loop-k : goal.decreases-loop-k
decreases-loop-k l = 8 - l.k
