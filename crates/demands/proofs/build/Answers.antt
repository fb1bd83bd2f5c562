use Rattle.demands.proofs.Refusing.{builds}
use Rattle.demands.proofs.Writing.{writes, build_case}
use Rattle.demands.proofs.build.Goals as goal

pub returns : goal.returns
returns c = let e = c.build.ensures in record { one = builds _ _ _ _ e.told e.bytes; three = writes _ _ _ _ e.answer e.bytes; case = build_case _ _ _ _ e.answer e.told e.bytes }
