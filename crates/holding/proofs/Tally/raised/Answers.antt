use Rattle.holding.proofs.Tallying.{raised_short, raised_full}
use Rattle.holding.proofs.Tally.raised.Goals as goal
use Rattle.holding.proofs.Tally.raised.Goals.{else-size-self, then-size-self}

-- src/lib.rt:98:5
pub returns : goal.returns
returns c = elim c.if-size-self.branch [ then-size-self w ↦ raised_short _ _ _ w.self-is w.if-size-self.true | else-size-self w ↦ raised_full _ _ _ w.self-is w.if-size-self.false ]
