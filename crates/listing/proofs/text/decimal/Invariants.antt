use Prim.Native.Nat.{◌≤◌}
use Rattle.listing.proofs.Spelling.{Spelled}
use Rattle.listing.proofs.text.decimal.Given as goal

abbrev pub invariant-loop-rest : goal.invariant-loop-rest
invariant-loop-rest l = (l.i ≤ 19) × Spelled l.n l.i l.rest l.digits

abbrev pub decreases-loop-rest : goal.decreases-loop-rest
decreases-loop-rest l = l.i
