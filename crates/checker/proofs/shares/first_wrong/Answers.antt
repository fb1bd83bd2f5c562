use Prim.Native.Nat.{◌<◌}
use native.Mathlib.Omega.{arith}
use lib.Seq.{length-take-le}
use Rattle.matroid.proofs.Sets.{size_le}
use Rattle.sets.specs.Bits.{bit}
use Rattle.kinds.specs.Valuations.{matroids}
use Rattle.sheet.proofs.Sizes.{share_inside}
use Rattle.checker.proofs.Lowest.{found_some, found_none}
use Rattle.checker.proofs.Bundles.{agent_taken}
use Rattle.checker.proofs.Shared.{shown_none, shown_away, shown_next, shown_stop, shown_done}
use borrow.Author.Rules.{rules}
use Rattle.checker.proofs.shares.first_wrong.Goals as goal
use Rattle.checker.proofs.shares.first_wrong.Goals.{else-member, then-member+else-not-team_holds}

pub loop-t-init : goal.loop-t-init
loop-t-init c = (search rules, shown_none _ _ _ _)

pub team_holds-requires : goal.team_holds-requires
team_holds-requires c = let args = c.args in
    let pre = c.requires in
    let few = length-take-le args.n args.valuations (omega (arith, pre.1, pre.2)) in
    let inside = c.loop-t-test.true in
    let l : c.loop-t.t < args.n = omega arith in
    let e = c.size_below-p.ensures in
    let some = size_le args.n (bit args.here) in
    let a = share_inside args.m args.n c.loop-t.t l in
    (pre.0, omega (arith, pre.1), omega (arith, pre.1), omega (arith, pre.3))

pub returns-then-not-team_holds : goal.returns-then-not-team_holds
returns-then-not-team_holds c = let args = c.args in
    let pre = c.requires in
    let at = c.loop-t in
    let few = length-take-le args.n args.valuations (omega (arith, pre.1, pre.2)) in
    let inside = c.loop-t-test.true in
    let l : c.loop-t.t < args.n = omega arith in
    let agent = agent_taken args.m args.n args.valuations at.t _ pre.2 pre.1 l in
    found_some l (shown_stop args.m args.n (bit args.here) (matroids args.m args.valuations) args.sheet.now at.t at.invariant.1
    _ c.member.ensures c.if-member.true _ agent _ c.size_below-p.ensures _ c.team_holds.ensures l (c.if-not-team_holds.true))

pub loop-t-preserved : goal.loop-t-preserved
loop-t-preserved c = let args = c.args in
    let pre = c.requires in
    let at = c.loop-t in
    let few = length-take-le args.n args.valuations (omega (arith, pre.1, pre.2)) in
    let inside = c.loop-t-test.true in
    let l : c.loop-t.t < args.n = omega arith in
    let agent = agent_taken args.m args.n args.valuations at.t _ pre.2 pre.1 l in
    let shown = shown_next args.m args.n (bit args.here) (matroids args.m args.valuations) args.sheet.now at.t at.invariant.1 _ c.member.ensures in
    let away = shown_away args.m args.n (bit args.here) (matroids args.m args.valuations) args.sheet.now at.t at.invariant.1 _ c.member.ensures in
    (search rules, elim c.if-member.branch [ then-member+else-not-team_holds w ↦ shown w.if-member.true _ agent _ c.size_below-p.ensures _ w.team_holds.ensures (w.if-not-team_holds.false) | else-member w ↦ away w.if-member.false ])

pub returns : goal.returns
returns c = let args = c.args in
    let pre = c.requires in
    let few = length-take-le args.n args.valuations (omega (arith, pre.1, pre.2)) in
    let past = c.loop-t-test.false in
    found_none (shown_done args.m args.n (bit args.here) (matroids args.m args.valuations) args.sheet.now c.loop-t.t c.loop-t.invariant.1 (omega arith))
