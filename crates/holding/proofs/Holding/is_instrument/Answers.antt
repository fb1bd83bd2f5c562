use borrow.Author.Tests.{lt-ltb, le-ltb}
use Rattle.holding.specs.Give.{is_instrument}
use Rattle.holding.proofs.Holding.is_instrument.Goals as goal

pub returns-then-g-self : goal.returns-then-g-self
unfolding is_instrument
returns-then-g-self c = rw (lt-ltb _ _ c.if-g-self.true)

pub returns-else-g-self : goal.returns-else-g-self
unfolding is_instrument
returns-else-g-self c = rw (le-ltb _ _ c.if-g-self.false)
