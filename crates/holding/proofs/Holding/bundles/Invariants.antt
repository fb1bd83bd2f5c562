use Rattle.sets.specs.Bundles.{Bundles}
use Rattle.holding.specs.Give.{holder_of}
use Rattle.holding.proofs.Holding.bundles.Given as goal

abbrev pub invariant-loop-g : goal.invariant-loop-g
invariant-loop-g l = Bundles l.g (holder_of l.fn.self) l.words
