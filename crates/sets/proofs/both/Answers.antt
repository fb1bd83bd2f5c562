use Rattle.sets.proofs.Words.{bit_both}
use Rattle.sets.proofs.both.Goals as goal

pub returns : goal.returns
returns c = bit_both _ _
