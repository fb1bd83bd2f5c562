use Prim.Native.Nat.{ℕ, ◌<◌}
use mathlib.Core.Path.{◌≡◌, ap, ◌∙◌}
use native.Mathlib.Omega.{arith}
use lib.ListN.{length}
use lib.Seq.{get_or-take, length-take-le}
use Rattle.matroid.specs.Set.{size}
use Rattle.sets.specs.Bits.{bit}
use Rattle.sheet.proofs.Sizes.{share_inside}
use Rattle.checker.proofs.Lowest.{found_some, found_none}
use Rattle.checker.proofs.Shared.{enough_none, enough_next, enough_stop, enough_done}
use borrow.Author.Rules.{rules}
use Rattle.checker.proofs.shares.first_short.Goals as goal

pub loop-t-init : goal.loop-t-init
loop-t-init c = (search rules, enough_none _ _ _)

pub share_start-requires : goal.share_start-requires
share_start-requires c = let args = c.args in
    let at = c.loop-t in
    let pre = c.requires in
    let long : length args.bundles ≡ 12 = search rules in
    let few = length-take-le args.n args.bundles (omega arith) in
    let l = c.loop-t-test.true in
    let inside : at.t < args.n = omega arith in
    (pre.0, omega arith)

pub overflow_add-share_start : goal.overflow_add-share_start
overflow_add-share_start c = let args = c.args in
    let at = c.loop-t in
    let pre = c.requires in
    let long : length args.bundles ≡ 12 = search rules in
    let few = length-take-le args.n args.bundles (omega arith) in
    let l = c.loop-t-test.true in
    let inside : at.t < args.n = omega arith in
    let e = c.share_start.ensures in
    let a = share_inside args.m args.n at.t inside in
    omega (arith, pre.2)

pub bounds-sheet-share_start : goal.bounds-sheet-share_start
bounds-sheet-share_start c = let args = c.args in
    let at = c.loop-t in
    let pre = c.requires in
    let long : length args.bundles ≡ 12 = search rules in
    let few = length-take-le args.n args.bundles (omega arith) in
    let l = c.loop-t-test.true in
    let inside : at.t < args.n = omega arith in
    let e = c.share_start.ensures in
    let a = share_inside args.m args.n at.t inside in
    omega (arith, pre.2)

pub returns-then-size-share : goal.returns-then-size-share
returns-then-size-share c = let args = c.args in
    let at = c.loop-t in
    let pre = c.requires in
    let long : length args.bundles ≡ 12 = search rules in
    let few = length-take-le args.n args.bundles (omega arith) in
    let l = c.loop-t-test.true in
    let inside : at.t < args.n = omega arith in
    λ w. found_some inside (enough_stop args.m args.n args.bundles args.sheet.now at.t at.invariant.1 _ _ _ c.share_start.ensures c.wide-share.ensures (c.size.ensures ∙ ap (λ (x : ℕ). size 64 (bit x)) (get_or-take args.n args.bundles at.t 0 inside)) pre.0 pre.1 inside c.if-size-share.true w)

pub loop-t-preserved : goal.loop-t-preserved
loop-t-preserved c = let args = c.args in
    let at = c.loop-t in
    let pre = c.requires in
    let long : length args.bundles ≡ 12 = search rules in
    let few = length-take-le args.n args.bundles (omega arith) in
    let l = c.loop-t-test.true in
    let inside : at.t < args.n = omega arith in
    (search rules, enough_next args.m args.n args.bundles args.sheet.now at.t at.invariant.1 _ _ _ c.share_start.ensures c.wide-share.ensures (c.size.ensures ∙ ap (λ (x : ℕ). size 64 (bit x)) (get_or-take args.n args.bundles at.t 0 inside)) c.if-size-share.false)

pub returns : goal.returns
returns c = let args = c.args in
    let at = c.loop-t in
    let pre = c.requires in
    let long : length args.bundles ≡ 12 = search rules in
    let few = length-take-le args.n args.bundles (omega arith) in
    let past = c.loop-t-test.false in
    λ w. found_none (enough_done args.m args.n args.bundles args.sheet.now at.t at.invariant.1 pre.0 pre.1 (omega arith) w)
