use mathlib.Core.Path.{sym}
use Rattle.loops.specs.Groups.{relabel_hit, relabel_miss}
use Rattle.loops.proofs.groups.relabel.Goals as goal

pub returns-then-label-q : goal.returns-then-label-q
returns-then-label-q c = sym (relabel_hit _ _ _ c.if-label-q.true)

pub returns-else-label-q : goal.returns-else-label-q
returns-else-label-q c = sym (relabel_miss _ _ _ c.if-label-q.false)
