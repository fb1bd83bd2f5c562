use Rattle.engine.specs.Offer.{Offered}
use Rattle.engine.proofs.greedy.round.Given as goal

abbrev pub invariant-loop-t : goal.invariant-loop-t
invariant-loop-t l = Offered l.fn.s l.owner l.bundles l.pool
