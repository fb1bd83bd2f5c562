use Rattle.holding.proofs.Tallying.{lowered_short, lowered_full}
use Rattle.holding.proofs.Tally.lowered.Goals as goal
use Rattle.holding.proofs.Tally.lowered.Goals.{else-left-self, then-left-self}

-- src/lib.rt:111:5
pub returns : goal.returns
returns c = elim c.if-left-self.branch [ then-left-self w ↦ lowered_short _ _ _ w.self-is w.if-left-self.true | else-left-self w ↦ lowered_full _ _ _ w.self-is w.if-left-self.false ]
