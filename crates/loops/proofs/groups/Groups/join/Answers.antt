use mathlib.Core.Path.{ap, ◌∙◌}
use native.Mathlib.Omega.{arith}
use Rattle.team.specs.Team.{joints}
use Rattle.loops.specs.Groups.{relabel}
use Rattle.loops.specs.Forests.{groups_of}
use Rattle.loops.proofs.Reading.{joined_by}
use Rattle.loops.proofs.Entries.{replaced_none, replaced_next}
use Rattle.loops.proofs.groups.Groups.join.Goals as goal

pub bounds-self-from : goal.bounds-self-from
unfolding joints
bounds-self-from c = omega arith

pub bounds-self-from-2 : goal.bounds-self-from-2
unfolding joints
bounds-self-from-2 c = omega arith

pub loop-label-init : goal.loop-label-init
loop-label-init c = replaced_none _ _

pub loop-label-preserved : goal.loop-label-preserved
loop-label-preserved c = let h = c.loop-label.invariant in
    replaced_next _ _ _ _ _ h (omega (arith, h.long)) (c.relabel.ensures ∙ ap (relabel _ _) (h.ahead c.loop-label.label-index (omega arith)))

pub returns : goal.returns
unfolding joints
returns c = λ k l. c.loop-label.invariant.done k (omega arith) ∙ joined_by (groups_of c.args.self.now.label) _ _ _ _ c.from.ensures c.from-2.ensures k
