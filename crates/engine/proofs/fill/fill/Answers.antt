use mathlib.Core.Path.{◌∙◌}
use native.Mathlib.Omega.{arith}
use Rattle.engine.proofs.Filling.{ready_of, worthless_full, fill_held, fill_shares, fill_less, fill_done}
use Rattle.engine.proofs.fill.fill.Goals as goal

pub returns-then-worthless : goal.returns-then-worthless
returns-then-worthless c = (worthless_full _ _ _ c.loop-s.invariant.0 c.pool-pool.ensures (c.worthless.ensures c.if-worthless.true), c.loop-s.invariant.1 ∙ c.greedy-h.ensures.1)

pub search-r-requires : goal.search-r-requires
search-r-requires c = ready_of _ _ _ c.loop-s.invariant.0 c.bundles.ensures

pub returns-in_default : goal.returns-in_default
returns-in_default c = (fill_done _ _ c.loop-s.invariant.0 _ _ c.all_below-sources.ensures c.pool-pool.ensures _ c.search-r.ensures c.in_default.is _ _ c.all_below.ensures c.minus-bound.ensures, c.loop-s.invariant.1 ∙ c.greedy-h.ensures.1)

pub moves_back-requires : goal.moves_back-requires
moves_back-requires c = let f = c.search-r.ensures.found _ c.in-Some.is in
    let b = f.0.traced.below _ f.1 in
    omega (arith, c.requires.small)

pub loop-s-smaller : goal.loop-s-smaller
loop-s-smaller c = fill_less _ _ c.loop-s.invariant.0 _ _ c.all_below-sources.ensures c.pool-pool.ensures _ c.search-r.ensures c.requires.some _ c.in-Some.is _ c.moves_back.ensures _ c.chain-h.ensures.next

pub loop-s-preserved : goal.loop-s-preserved
loop-s-preserved c = (fill_held _ _ c.loop-s.invariant.0 _ _ c.all_below-sources.ensures c.pool-pool.ensures _ c.search-r.ensures c.requires.some _ c.in-Some.is _ c.moves_back.ensures _ c.chain-h.ensures.next, fill_shares _ _ c.loop-s.invariant.0 _ _ c.all_below-sources.ensures c.pool-pool.ensures _ c.search-r.ensures c.requires.some _ c.in-Some.is _ c.moves_back.ensures _ c.chain-h.ensures.next ∙ c.loop-s.invariant.1)
