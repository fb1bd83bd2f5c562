use Rattle.sets.specs.Chosen.{Chosen}
use Rattle.sets.proofs.those.Given as goal

abbrev pub invariant-loop-i : goal.invariant-loop-i
invariant-loop-i g l = Chosen l.i (goal.F-post g l.test) l.set
