use mathlib.Core.Path.{◌≡◌}
use Rattle.holding.specs.Count.{sizes_in}
use Rattle.holding.proofs.Holding.counted.Given as goal

abbrev pub invariant-loop-holder : goal.invariant-loop-holder
invariant-loop-holder l = l.sizes ≡ sizes_in l.holder-index l.n l.fn.owner
