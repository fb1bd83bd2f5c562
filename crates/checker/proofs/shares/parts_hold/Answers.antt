use Prim.Native.Nat.{ℕ, ◌<◌}
use mathlib.Core.Path.{◌≡◌, ap, ◌∙◌}
use native.Mathlib.Omega.{arith}
use lib.ListN.{length}
use lib.Seq.{get_or-take, length-take-le}
use Rattle.matroid.specs.Matroid.{worth}
use Rattle.sets.specs.Bits.{bit}
use Rattle.kinds.specs.Valuations.{matroid_of}
use Rattle.checker.proofs.Shared.{reached_none, reached_zero, reached_next, reached_stop, reached_done}
use borrow.Author.Rules.{rules}
use Rattle.checker.proofs.shares.parts_hold.Goals as goal

pub returns-then-share-eq0 : goal.returns-then-share-eq0
returns-then-share-eq0 c = reached_done (matroid_of c.args.m c.args.valuation) c.args.share c.args.parts c.args.p (reached_zero (matroid_of c.args.m c.args.valuation) c.args.share c.args.parts c.args.p c.if-share-eq0.true) c.args.p c.requires.1 (search rules)

pub loop-part-init : goal.loop-part-init
loop-part-init c = (search rules, reached_none _ _ _)

pub returns-then-worth_of-share : goal.returns-then-worth_of-share
returns-then-worth_of-share c = let args = c.args in
    let at = c.loop-part in
    let M = matroid_of args.m args.valuation in
    let long : length args.parts ≡ 12 = search rules in
    let few = length-take-le args.p args.parts (omega (arith, c.requires.1)) in
    let l = c.loop-part-test.true in
    let inside : at.part-index < args.p = omega arith in
    reached_stop M args.share args.parts at.part-index at.invariant.1 args.p _ c.requires.1 inside (c.worth_of.ensures ∙ ap (λ (x : ℕ). worth M (bit x)) (get_or-take args.p args.parts at.part-index 0 inside)) c.if-worth_of-share.true

pub loop-part-preserved : goal.loop-part-preserved
loop-part-preserved c = let args = c.args in
    let at = c.loop-part in
    let M = matroid_of args.m args.valuation in
    let long : length args.parts ≡ 12 = search rules in
    let few = length-take-le args.p args.parts (omega (arith, c.requires.1)) in
    let l = c.loop-part-test.true in
    let inside : at.part-index < args.p = omega arith in
    (search rules, reached_next M args.share args.parts at.part-index at.invariant.1 _ (c.worth_of.ensures ∙ ap (λ (x : ℕ). worth M (bit x)) (get_or-take args.p args.parts at.part-index 0 inside)) c.if-worth_of-share.false)

pub returns : goal.returns
returns c = let args = c.args in
    let at = c.loop-part in
    let long : length args.parts ≡ 12 = search rules in
    let few = length-take-le args.p args.parts (omega (arith, c.requires.1)) in
    let past = c.loop-part-test.false in
    reached_done (matroid_of args.m args.valuation) args.share args.parts at.part-index at.invariant.1 args.p c.requires.1 (omega arith)
