use Rattle.std.proofs.Common.{◌≤◌}
use Rattle.lines.proofs.bytes.decode.Given as goal

abbrev pub invariant-loop-place : goal.invariant-loop-place
invariant-loop-place l = l.count ≤ l.place-index
