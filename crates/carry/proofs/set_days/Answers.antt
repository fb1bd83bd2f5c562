use Rattle.carry.proofs.Writing.{row_days}
use Rattle.carry.proofs.set_days.Goals as goal

pub returns : goal.returns
returns c = row_days _ c.requires _ _ _ _ _ c.copy_from_slice.ensures.after
