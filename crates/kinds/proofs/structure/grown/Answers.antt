use mathlib.Core.Path.{sym}
use Rattle.sets.proofs.Growing.{grown_same}
use Rattle.kinds.proofs.Cases.{of_caps, of_loops, of_mounts}
use Rattle.kinds.proofs.structure.grown.Goals as goal

pub returns-in-Ok-Caps : goal.returns-in-Ok-Caps
returns-in-Ok-Caps c = rw (of_caps c.args.m c.args.team.now (sym (rw c.in-Ok-Caps.field-0-is at c.in-Ok-Caps.ensures))) c.grown.ensures

pub returns-in-Ok-Loops : goal.returns-in-Ok-Loops
returns-in-Ok-Loops c = rw (of_loops c.args.m c.args.team.now (sym (rw c.in-Ok-Loops.field-0-is at c.in-Ok-Loops.ensures))) (rw c.spans.ensures at c.grown-in-Ok-Loops.ensures)

pub returns-in-Ok-Mounts : goal.returns-in-Ok-Mounts
returns-in-Ok-Mounts c = rw (of_mounts c.args.m c.args.team.now (sym (rw c.in-Ok-Mounts.field-0-is at c.in-Ok-Mounts.ensures))) (rw c.tables.ensures at c.grown-in-Ok-Mounts.ensures)

pub returns-in-Err : goal.returns-in-Err
returns-in-Err c = grown_same _ _ _ _
