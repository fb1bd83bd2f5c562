use native.Mathlib.Omega.{arith}
use lib.Count.{ones-le}
use Rattle.sets.proofs.Words.{ones_size}
use Rattle.sets.proofs.size.Goals as goal

pub overflow_cast-result : goal.overflow_cast-result
overflow_cast-result c = omega (arith, ones-le 64 c.args.s c.ranges.s.fits)

pub returns : goal.returns
returns c = ones_size 64 c.args.s c.ranges.s.fits
