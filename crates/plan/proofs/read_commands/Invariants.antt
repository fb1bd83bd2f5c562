use Prim.Native.Nat.{◌-◌}
use mathlib.Core.Path.{◌≡◌}
use lib.ListN.{length}
use Rattle.plan.proofs.Run.{Stands}
use Rattle.plan.proofs.read_commands.Given as goal

-- What has been read stands in the rows, and the reader holds the file.
abbrev pub invariant-loop-next : goal.invariant-loop-next
invariant-loop-next l = record { reads : l.reader.file.now ≡ l.fn.file; stands : Stands l.fn.file l.reader.at l.s l.rows }

-- Each turn comes nearer to the file's end.
abbrev pub decreases-loop-next : goal.decreases-loop-next
decreases-loop-next l = length l.fn.file - l.reader.at
