use Prim.Native.Nat.{◌≤◌, ◌-◌}
use Rattle.builder.specs.Rows.{PagesRow}
use Rattle.builder.proofs.write.write_pages.Given as goal

abbrev pub invariant-loop-t : goal.invariant-loop-t
invariant-loop-t l = (l.t ≤ l.t-end) × PagesRow l.initial.buffer l.buffer l.m l.t l.fn.shares

abbrev pub decreases-loop-t : goal.decreases-loop-t
decreases-loop-t l = l.t-end - l.t
