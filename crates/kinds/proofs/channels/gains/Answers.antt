use native.Mathlib.Omega.{arith}
use Rattle.kinds.specs.Teams.{structure_of}
use Rattle.kinds.proofs.Truncating.{joins_full, joins_truncate}
use Rattle.kinds.proofs.channels.gains.Goals as goal

pub returns-then-channels-size_below : goal.returns-then-channels-size_below
returns-then-channels-size_below c = let a = c.args in joins_full (structure_of a.m a.team.now) a.team.now.channels _ (omega arith)

pub returns : goal.returns
returns c = let a = c.args in joins_truncate (structure_of a.m a.team.now) a.team.now.channels _ _ (omega arith) c.gains.ensures
