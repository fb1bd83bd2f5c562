use Rattle.std.proofs.Common.{◌<◌}
use Rattle.lines.proofs.number.Given as goal

abbrev pub invariant-loop-byte : goal.invariant-loop-byte
invariant-loop-byte l = l.value < 1000000
