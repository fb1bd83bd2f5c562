use Rattle.sets.specs.Bits.{bit}
use Rattle.kinds.specs.Teams.{kind_matroid}
use Rattle.kinds.specs.Valuations.{matroid_of_lem}
use Rattle.kinds.proofs.Contracting.{joins_nothing, joins_above}
use Rattle.kinds.proofs.gains_of.Goals as goal

pub returns-then-not-stands : goal.returns-then-not-stands
returns-then-not-stands c = let a = c.args in
    rw (matroid_of_lem a.m a.v) (λ _. joins_nothing (kind_matroid a.m a.v.team) (bit a.v.glued) (bit a.v.usable) _ (c.stands.ensures.no c.if-not-stands.true))

pub returns : goal.returns
returns c = let a = c.args in
    let stands = c.stands.ensures.yes c.if-not-stands.false in
    rw (matroid_of_lem a.m a.v) (joins_above (kind_matroid a.m a.v.team) (bit a.v.glued) (bit a.v.usable) stands _ _ _ _ c.either.ensures c.gains-free.ensures c.both.ensures)
