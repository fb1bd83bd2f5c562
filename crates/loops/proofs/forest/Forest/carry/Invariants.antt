use Rattle.loops.specs.Graphic.{net_of}
use Rattle.loops.specs.Forests.{forest}
use Rattle.loops.proofs.Carrying.{Carrying}
use Rattle.loops.proofs.forest.Forest.carry.Given as goal

abbrev pub invariant-loop-g : goal.invariant-loop-g
invariant-loop-g l = Carrying (net_of l.spans.first l.spans.second) l.m (forest l.initial.self.gauges l.initial.self.groups.label) l.from l.most l.g-iterator.left l.room (forest l.self.gauges l.self.groups.label)
