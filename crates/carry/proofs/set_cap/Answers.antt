use Rattle.carry.proofs.Writing.{row_cap, cap_past}
use Rattle.carry.proofs.set_cap.Goals as goal

pub returns-then-class-lt16 : goal.returns-then-class-lt16
returns-then-class-lt16 c = rw c.from.ensures (row_cap _ _ _ c.if-class-lt16.true)

pub returns-else-class-lt16 : goal.returns-else-class-lt16
returns-else-class-lt16 c = cap_past _ c.requires _ _ c.if-class-lt16.false
