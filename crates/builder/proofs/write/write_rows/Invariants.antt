use Prim.Native.Nat.{◌≤◌, ◌-◌, ◌*◌}
use Rattle.builder.specs.Rows.{Row, row_bytes}
use Rattle.builder.proofs.write.write_rows.Given as goal

abbrev pub invariant-loop-g : goal.invariant-loop-g
invariant-loop-g l = (l.g ≤ l.g-end) × Row l.initial.buffer l.buffer l.at (3 * l.g) (row_bytes l.byte l.fn.table)

abbrev pub decreases-loop-g : goal.decreases-loop-g
decreases-loop-g l = l.g-end - l.g
