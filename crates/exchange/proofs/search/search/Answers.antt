use native.Mathlib.Omega.{arith}
use Rattle.exchange.proofs.Going.{roots_found, roots_clear, outcome_found}
use Rattle.exchange.proofs.search.search.Goals as goal

pub returns-in-Some : goal.returns-in-Some
returns-in-Some c = rw c.ended.ensures (outcome_found _ _ _ c.requires _ _ _ _ (roots_found _ _ _ c.requires _ _ c.roots-start.result _ _ (c.roots-start.ensures _ c.requires) c.both.ensures c.in-Some.ensures.0 c.in-Some.ensures.1))

pub returns-in-None : goal.returns-in-None
returns-in-None c = let rooting = c.roots-start.ensures _ c.requires in
    c.scan.ensures.at _ rooting (roots_clear _ _ _ c.requires _ _ _ _ _ rooting c.both.ensures c.in-None.ensures (omega arith))
