use Rattle.kinds.proofs.Truncating.{grown_truncate}
use Rattle.kinds.proofs.channels.grown.Goals as goal

pub returns : goal.returns
returns c = let spare = c.spare-room.ensures in grown_truncate _ _ _ _ _ _ _ spare.few (rw c.from.ensures at spare.room) c.grown.ensures
