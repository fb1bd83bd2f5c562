use Prim.Native.Nat.{ℕ, ◌-◌, ◌≤◌, ◌<◌}
use Rattle.plan.proofs.Gluing.{Stands}
use Rattle.plan.proofs.Standing.{reading_of}
use Rattle.plan.proofs.glue.all_stand.Given as goal

-- The glued instruments of the teams below t stand.
abbrev pub invariant-loop-t : goal.invariant-loop-t
invariant-loop-t l = (l.t ≤ l.n) × ((k : ℕ) → k < l.t → Stands (reading_of l.m l.n l.rows) k)

abbrev pub decreases-loop-t : goal.decreases-loop-t
decreases-loop-t l = l.n - l.t
