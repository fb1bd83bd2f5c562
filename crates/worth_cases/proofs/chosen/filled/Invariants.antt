use Rattle.std.proofs.Common.{◌≡◌, ◌-◌, length}
use Rattle.worth_cases.proofs.chosen.filled.Given as goal

abbrev pub invariant-loop-at : goal.invariant-loop-at
invariant-loop-at l = length l.row ≡ 343

abbrev pub decreases-loop-at : goal.decreases-loop-at
decreases-loop-at l = length l.bytes - l.at
