use Rattle.sets.specs.Bits.{bit}
use Rattle.kinds.specs.Teams.{kind_matroid}
use Rattle.kinds.proofs.Contracting.{stands_empty, stands_yes, stands_no}
use Rattle.kinds.proofs.Valuation.stands.Goals as goal

pub returns-then-self-eq0-clause-yes : goal.returns-then-self-eq0-clause-yes
returns-then-self-eq0-clause-yes c = let v = c.args.self.now in λ _. stands_empty (kind_matroid c.args.m v.team) v.glued c.if-self-eq0.true

pub returns-clause-yes : goal.returns-clause-yes
returns-clause-yes c = let v = c.args.self.now in stands_yes (kind_matroid c.args.m v.team) (bit v.glued) _ _ c.worth.ensures c.size_below.ensures

pub returns-clause-no : goal.returns-clause-no
returns-clause-no c = let v = c.args.self.now in stands_no (kind_matroid c.args.m v.team) (bit v.glued) _ _ c.worth.ensures c.size_below.ensures
