use Prim.Native.Nat.{◌+◌, ◌-◌, ◌*◌, ◌≤◌}
use Rattle.matroid.specs.Cuts.{each}
use Rattle.listing.specs.Listing.{team_line}
use Rattle.listing.specs.Put.{Put}
use Rattle.listing.proofs.line.teams.Given as goal

abbrev pub invariant-loop-t : goal.invariant-loop-t
invariant-loop-t l = (l.t ≤ l.n) × (l.next ≤ l.at + 1857 * l.t) × Put l.initial.buffer l.at (each l.t (team_line l.m l.sheet)) l.buffer l.next

abbrev pub decreases-loop-t : goal.decreases-loop-t
decreases-loop-t l = l.n - l.t
