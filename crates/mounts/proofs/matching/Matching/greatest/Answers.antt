use Rattle.sets.proofs.Through.{ahead_all, through_none, through_next, here}
use Rattle.mounts.proofs.Greatest.{matched_none, upto_none, upto_rests, upto_out, upto_next}
use Rattle.mounts.proofs.matching.Matching.greatest.Goals as goal

pub loop-g-init : goal.loop-g-init
loop-g-init c = let none = c.nobody-held.ensures in
    rw (c.into_iter-g-iterator.ensures.into_iter_gives, c.members-g-items.ensures) (through_none _ _ _ _ (ahead_all _ _ _ _ c.all_below.ensures c.both.ensures) (upto_none _ _ _ _ (matched_none _ _ none.none none.free none.on) none.none))

pub join-requires : goal.join-requires
join-requires c = let h = c.loop-g.invariant in
    let next = c.in-Some.ensures.steps in
    let (_, below, after) = here _ _ _ _ _ h next.low next.some in
    (h.holds.matched, next.some, upto_out _ _ _ _ _ _ h.holds after)

pub loop-g-preserved : goal.loop-g-preserved
loop-g-preserved c = let h = c.loop-g.invariant in
    let next = c.in-Some.ensures.steps in
    let (_, below, _) = here _ _ _ _ _ h next.low next.some in
    through_next _ _ _ _ _ h next.low next.some _ next.is _ (upto_rests _ _ _ _ _) (λ member upto. upto_next _ _ _ _ _ _ upto c.join.ensures below c.requires member)
