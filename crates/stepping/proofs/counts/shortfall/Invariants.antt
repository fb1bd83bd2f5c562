use Rattle.std.proofs.Common.{◌*◌, ◌≤◌}
use Rattle.stepping.proofs.counts.shortfall.Given as goal

abbrev pub invariant-loop-t : goal.invariant-loop-t
invariant-loop-t l = l.sum ≤ l.t * 255
