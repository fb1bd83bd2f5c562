use mathlib.Core.Path.{◌≡◌}
use native.Mathlib.Omega.{arith}
use native.Mathlib.Nat.{mod-eq_of_lt, one-mul}
use lib.Pow.{pow-lt, pow_pos}
use Rattle.sets.proofs.Words.{bit_below}
use Rattle.sets.proofs.all_below.Goals as goal

pub overflow_sub-result : goal.overflow_sub-result
overflow_sub-result c = rw (one-mul, mod-eq_of_lt (pow-lt {j = 64} c.if-m-lt64.true)) (pow_pos c.args.m)

pub returns-then-m-lt64 : goal.returns-then-m-lt64
returns-then-m-lt64 c = λ j. rw (one-mul, mod-eq_of_lt (pow-lt {j = 64} c.if-m-lt64.true)) (bit_below c.args.m j)

pub returns-else-m-lt64 : goal.returns-else-m-lt64
returns-else-m-lt64 c = let e : c.args.m ≡ 64 = omega (arith, c.requires) in rw e (bit_below 64)
