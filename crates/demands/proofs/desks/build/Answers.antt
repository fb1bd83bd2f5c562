use mathlib.Core.Path.{refl}
use Rattle.demands.proofs.Desking.{desk_builds}
use Rattle.demands.proofs.Writing.{writes}
use Rattle.demands.proofs.desks.build.Goals as goal

pub returns : goal.returns
returns c = let e = c.pool_build.ensures in record { one = desk_builds _ _ _ _ e.answer e.bytes; three = writes _ _ _ _ refl e.bytes }
