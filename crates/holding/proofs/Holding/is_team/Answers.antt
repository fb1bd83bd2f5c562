use borrow.Author.Tests.{lt-ltb, le-ltb}
use Rattle.holding.specs.Give.{is_team}
use Rattle.holding.proofs.Holding.is_team.Goals as goal

pub returns-then-t-self : goal.returns-then-t-self
unfolding is_team
returns-then-t-self c = rw (lt-ltb _ _ c.if-t-self.true)

pub returns-else-t-self : goal.returns-else-t-self
unfolding is_team
returns-else-t-self c = rw (le-ltb _ _ c.if-t-self.false)
