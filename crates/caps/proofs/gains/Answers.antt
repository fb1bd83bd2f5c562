use Rattle.caps.proofs.Joining.{caps_gains}
use Rattle.caps.proofs.gains.Goals as goal

pub returns : goal.returns
returns c = caps_gains _ _ _ _ _ c.class_counts-counts.ensures _ _ c.with_room.ensures c.minus.ensures
