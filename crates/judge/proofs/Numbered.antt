-- Every fault has a number above 0.
use mathlib.Core.Logic.{◌≢◌}
use native.Mathlib.Omega.{arith}
use Rattle.judge.specs.declared.fault.Fault.{Fault}
use Rattle.judge.specs.declared.fault.Fault.TheVariants.{Cut, Unknown, Misplaced, OutOfRange, Repeated, TooManyTeams, EqualJoints, Unordered}
use Rattle.judge.specs.Broken.{numbered}

pub numbered_some : (fault : Fault) → numbered fault ≢ 0
numbered_some Cut e = omega arith
numbered_some Unknown e = omega arith
numbered_some Misplaced e = omega arith
numbered_some OutOfRange e = omega arith
numbered_some Repeated e = omega arith
numbered_some TooManyTeams e = omega arith
numbered_some EqualJoints e = omega arith
numbered_some Unordered e = omega arith
