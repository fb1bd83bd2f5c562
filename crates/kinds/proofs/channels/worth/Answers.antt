use native.Mathlib.Omega.{arith}
use Rattle.matroid.proofs.Building.{worth_truncate}
use Rattle.sets.specs.Bits.{bit}
use Rattle.kinds.specs.Teams.{structure_of}
use Rattle.kinds.proofs.channels.worth.Goals as goal

pub returns : goal.returns
returns c = let a = c.args in omega (arith, worth_truncate (structure_of a.m a.team.now) a.team.now.channels (bit a.set), c.worth-free.ensures)
