use Rattle.demands.proofs.Refusing.{checks}
use Rattle.demands.proofs.Ranking.{check_accepts, check_case}
use Rattle.demands.proofs.Writing.{check_good}
use Rattle.demands.proofs.check.Goals as goal

pub returns : goal.returns
returns c = let e = c.check.ensures in record { one = checks _ _ _ e.told; two = check_accepts _ _ _ e.verdict e.fair; three = check_good _ _ _ e.verdict e.fair; case = check_case _ _ _ e.verdict }
