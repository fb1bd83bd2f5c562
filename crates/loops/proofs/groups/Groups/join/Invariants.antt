use Rattle.loops.specs.Groups.{relabel}
use Rattle.loops.specs.Forests.{groups_of}
use Rattle.loops.proofs.Entries.{Replaced}
use Rattle.loops.proofs.groups.Groups.join.Given as goal

abbrev pub invariant-loop-label : goal.invariant-loop-label
invariant-loop-label l = Replaced (λ k. relabel l.p l.q (groups_of l.initial.label-items k)) l.initial.label-items l.label-index l.label-items
