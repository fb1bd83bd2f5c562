use mathlib.Core.Path.{refl}
use Rattle.sets.specs.Bits.{bit}
use Rattle.sets.proofs.member.Goals as goal

pub returns : goal.returns
unfolding bit
returns c = refl
