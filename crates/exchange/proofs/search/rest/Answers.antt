use mathlib.Core.Path.{refl}
use Rattle.sets.proofs.Below.{none_there}
use Rattle.exchange.specs.Search.{here, onward}
use Rattle.exchange.proofs.Words.{some_there}
use Rattle.exchange.proofs.search.rest.Goals as goal

pub returns-then-done : goal.returns-then-done
returns-then-done c = onward (λ k l. rw c.if-done.true (none_there k)) c.minus.ensures

pub returns-else-done : goal.returns-else-done
returns-else-done c = let (k, l, t) = some_there c.args.todo c.ranges.todo.fits c.if-done.false in here k l t refl
