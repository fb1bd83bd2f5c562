use Rattle.engine.specs.Level.{Above}
use Rattle.engine.proofs.level.above.Given as goal

abbrev pub invariant-loop-t : goal.invariant-loop-t
invariant-loop-t l = Above l.sizes l.shares l.fn.bundles l.t l.rich
