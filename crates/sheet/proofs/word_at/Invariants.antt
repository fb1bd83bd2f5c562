use Prim.Native.Nat.{◌≤◌, ◌+◌, ◌-◌}
use Rattle.sheet.proofs.Numbers.{Read}
use Rattle.sheet.proofs.word_at.Given as goal

abbrev pub invariant-loop-k : goal.invariant-loop-k
invariant-loop-k l = (l.k ≤ 8) × Read l.sheet (l.at + 8) l.k l.word

abbrev pub decreases-loop-k : goal.decreases-loop-k
decreases-loop-k l = 8 - l.k
