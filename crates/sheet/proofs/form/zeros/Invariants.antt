use Prim.Native.Nat.{◌≤◌, ◌-◌}
use Rattle.sheet.specs.Form.{is}
use Rattle.sheet.proofs.Commands.{BytesPass}
use Rattle.sheet.proofs.form.zeros.Given as goal

abbrev pub invariant-loop-k : goal.invariant-loop-k
invariant-loop-k l = (l.k ≤ 9) × BytesPass (λ k. is 0) l.sheet l.at l.k

abbrev pub decreases-loop-k : goal.decreases-loop-k
decreases-loop-k l = 9 - l.k
