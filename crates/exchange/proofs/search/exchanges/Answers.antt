use Rattle.exchange.proofs.Words.{exchanges_none, exchanges_at}
use Rattle.exchange.proofs.search.exchanges.Goals as goal

pub returns-then-minus-eq0 : goal.returns-then-minus-eq0
returns-then-minus-eq0 c = exchanges_none _ _ _ _ _ _ _ c.all_below.ensures c.minus.ensures c.if-minus-eq0.true

pub returns : goal.returns
returns c = exchanges_at _ _ _ _ _ _ _ _ _ c.without.ensures c.gains_of-free.ensures c.minus-2.ensures c.minus-3.ensures
