use Rattle.engine.specs.Divide.{Targets}
use Rattle.engine.proofs.divide.targets_of.Given as goal

abbrev pub invariant-loop-t : goal.invariant-loop-t
invariant-loop-t l = Targets l.fn.shares l.t l.targets
