use native.Mathlib.Nat.{mod-eq_of_lt, one-mul}
use lib.Pow.{pow-lt}
use Rattle.sets.proofs.Words.{bit_only}
use Rattle.sets.proofs.only.Goals as goal

pub returns : goal.returns
returns c = λ j. rw (one-mul, mod-eq_of_lt (pow-lt {j = 64} c.requires)) (bit_only c.args.k j)
