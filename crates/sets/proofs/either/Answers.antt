use Rattle.sets.proofs.Words.{bit_either}
use Rattle.sets.proofs.either.Goals as goal

pub returns : goal.returns
returns c = bit_either _ _
