use Prim.Native.Nat.{◌≤◌, ◌-◌}
use mathlib.Core.Path.{◌≡◌}
use lib.ListN.{length, take}
use Rattle.listing.specs.Put.{Put}
use Rattle.listing.proofs.text.word.Given as goal

abbrev pub invariant-loop-b : goal.invariant-loop-b
invariant-loop-b l = (l.b-index ≤ l.b-index-end) × (l.b-index-end ≡ length l.bytes) × Put l.initial.buffer l.at (take l.b-index l.bytes) l.buffer l.next

abbrev pub decreases-loop-b : goal.decreases-loop-b
decreases-loop-b l = l.b-index-end - l.b-index
