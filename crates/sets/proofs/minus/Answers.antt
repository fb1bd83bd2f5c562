use Rattle.sets.proofs.Words.{bit_minus}
use Rattle.sets.proofs.minus.Goals as goal

pub returns : goal.returns
returns c = bit_minus _ _
