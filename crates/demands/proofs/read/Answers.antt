use Rattle.demands.proofs.Refusing.{reads}
use Rattle.demands.proofs.read.Goals as goal

pub returns : goal.returns
returns c = reads _ _ c.read.ensures
