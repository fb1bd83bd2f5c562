use Prim.Native.Nat.{◌<◌}
use mathlib.Core.Path.{◌≡◌, ◌∙◌}
use native.Mathlib.Omega.{arith}
use lib.ListN.{length}
use Rattle.std.proofs.Common.{length-take, get_or-take}
use Rattle.std.proofs.lemmas.List.{get_or_default}
use Rattle.holding.proofs.Afresh.{afresh_none, afresh_small, afresh_all, afresh_team, afresh_pool}
use borrow.Author.Rules.{rules}
use Rattle.holding.proofs.Holding.counted.Goals as goal
use Rattle.holding.proofs.Holding.counted.Goals.{else-t-last, then-t-last}

pub loop-holder-init : goal.loop-holder-init
loop-holder-init c = afresh_none _ _

pub overflow_add-sizes : goal.overflow_add-sizes
overflow_add-sizes c = let small = afresh_small _ _ _ _ c.from-t.result c.loop-holder.invariant (omega (arith, c.if-t-last.true, c.teams-last.ensures)) in
    omega (arith, small)

pub loop-holder-preserved : goal.loop-holder-preserved
loop-holder-preserved c = let owner = c.args.owner in
    let end = c.instruments-end.result in
    let long : length owner ≡ 64 = search rules in
    let g = c.loop-holder.holder-index in
    let taken = length-take end owner in
    let below : g < end = omega (arith, c.loop-holder-test.true) in
    let is = c.from-t.ensures ∙ get_or-take end owner g 0 below ∙ get_or_default owner g 0 255 (omega (arith, c.instruments-end.ensures)) in
    elim c.if-t-last.branch [
      | then-t-last w ↦ afresh_team _ g owner (omega (arith, c.instruments-end.ensures)) _ _ _ is (omega (arith, w.if-t-last.true, c.teams-last.ensures)) c.loop-holder.invariant w.sizes-is
      | else-t-last w ↦ afresh_pool _ g owner (omega (arith, c.instruments-end.ensures)) _ _ _ is (omega (arith, w.if-t-last.false, c.teams-last.ensures)) c.loop-holder.invariant w.sizes-is
    ]

pub of-requires : goal.of-requires
of-requires c = let long : length c.args.owner ≡ 64 = search rules in
    let taken = length-take c.instruments-end.result c.args.owner in
    c.loop-holder.invariant ∙ afresh_all _ _ _ _ (omega (arith, c.loop-holder-test.false, c.loop-holder.auto.holder-index-end, c.instruments-end.ensures))
