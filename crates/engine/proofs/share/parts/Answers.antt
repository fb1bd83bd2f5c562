use Rattle.engine.proofs.Sharing.{parting_none}
use Rattle.engine.proofs.share.parts.Goals as goal

pub loop-g-init : goal.loop-g-init
loop-g-init c = parting_none _ _
