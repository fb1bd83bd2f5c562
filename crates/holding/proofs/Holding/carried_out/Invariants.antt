use Rattle.holding.proofs.Carried.{Carrying}
use Rattle.holding.proofs.Holding.carried_out.Given as goal

abbrev pub invariant-loop-step : goal.invariant-loop-step
invariant-loop-step l = Carrying l.self l.fn.moves l.step-index l.owner l.sizes
