use mathlib.Core.Path.{sym}
use Rattle.matroid.proofs.Building.{worth_rank_zero}
use Rattle.kinds.proofs.Cases.{of_caps, of_loops, of_mounts, of_none}
use Rattle.kinds.proofs.structure.worth.Goals as goal

pub returns-in-Ok-Caps : goal.returns-in-Ok-Caps
returns-in-Ok-Caps c = rw (of_caps c.args.m c.args.team.now (sym (rw c.in-Ok-Caps.field-0-is at c.in-Ok-Caps.ensures))) c.worth.ensures

pub returns-in-Ok-Loops : goal.returns-in-Ok-Loops
returns-in-Ok-Loops c = rw (of_loops c.args.m c.args.team.now (sym (rw c.in-Ok-Loops.field-0-is at c.in-Ok-Loops.ensures))) (rw c.spans.ensures at c.worth-in-Ok-Loops.ensures)

pub returns-in-Ok-Mounts : goal.returns-in-Ok-Mounts
returns-in-Ok-Mounts c = rw (of_mounts c.args.m c.args.team.now (sym (rw c.in-Ok-Mounts.field-0-is at c.in-Ok-Mounts.ensures))) (rw c.tables.ensures at c.worth-in-Ok-Mounts.ensures)

pub returns-in-Err : goal.returns-in-Err
returns-in-Err c = let (_, caps, loops, mounts) = c.in-Err.ensures in rw (of_none c.args.m c.args.team.now caps loops mounts) (sym (worth_rank_zero _ _))
