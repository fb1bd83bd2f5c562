use Rattle.exchange.proofs.Following.{Following}
use Rattle.exchange.proofs.chains.moves_back.Given as goal

abbrev pub invariant-loop-k : goal.invariant-loop-k
invariant-loop-k l = Following l.fn.trace l.fn.end l.g l.k l.step-items
