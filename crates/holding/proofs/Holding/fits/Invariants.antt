use Rattle.holding.proofs.Fits.{Fitting}
use Rattle.holding.proofs.Holding.fits.Given as goal

abbrev pub invariant-loop-step : goal.invariant-loop-step
invariant-loop-step l = Fitting l.self l.fn.moves l.step-index l.seen
