use Prim.Native.Nat.{◌+◌, ◌-◌, ◌*◌, ◌≤◌}
use Rattle.sheet.specs.Fields.{holder_at}
use Rattle.listing.specs.Listing.{instruments}
use Rattle.listing.specs.Put.{Put}
use Rattle.listing.proofs.line.instruments.Given as goal

abbrev pub invariant-loop-g : goal.invariant-loop-g
invariant-loop-g l = (l.g ≤ l.m) × (l.next ≤ l.at + 28 * l.g) × Put l.initial.buffer l.at (instruments l.g (holder_at l.sheet) l.team) l.buffer l.next

abbrev pub decreases-loop-g : goal.decreases-loop-g
decreases-loop-g l = l.m - l.g
