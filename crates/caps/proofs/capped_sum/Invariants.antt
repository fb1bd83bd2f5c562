use Prim.Native.Nat.{◌≤◌, ◌*◌}
use mathlib.Core.Path.{◌≡◌}
use Rattle.caps.specs.Counts.{capped_sum}
use Rattle.caps.proofs.capped_sum.Given as goal

abbrev pub invariant-loop-c : goal.invariant-loop-c
invariant-loop-c l = (l.total ≤ 255 * l.c) × (l.total ≡ capped_sum l.counts l.cap l.c)
