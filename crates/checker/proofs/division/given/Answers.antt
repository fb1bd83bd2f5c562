use Prim.Native.Nat.{ℕ}
use mathlib.Core.Path.{◌≡◌, ap, ◌∙◌}
use native.Mathlib.Omega.{arith}
use lib.ListN.{length}
use lib.Seq.{get_or-take, length-take-le}
use Rattle.matroid.specs.Set.{size}
use Rattle.sets.specs.Bits.{bit}
use Rattle.checker.proofs.Divided.{count_none, count_more, count_le, count_word_le, count_done}
use borrow.Author.Rules.{rules}
use Rattle.checker.proofs.division.given.Goals as goal

pub loop-bundle-init : goal.loop-bundle-init
loop-bundle-init c = (search rules, count_none _)

pub overflow_add-count : goal.overflow_add-count
overflow_add-count c = let args = c.args in
    let at = c.loop-bundle in
    let long : length args.bundles ≡ 12 = search rules in
    let few = length-take-le args.n args.bundles (omega arith) in
    let l = c.loop-bundle-test.true in
    let here = c.size-count.ensures ∙ ap (λ (x : ℕ). size 64 (bit x)) (get_or-take args.n args.bundles at.bundle-index 0 (omega arith)) in
    let a = count_le args.bundles at.bundle-index in
    let b = count_word_le args.bundles at.bundle-index _ here in
    let e = at.invariant.1 in
    omega arith

pub loop-bundle-preserved : goal.loop-bundle-preserved
loop-bundle-preserved c = let args = c.args in
    let at = c.loop-bundle in
    let long : length args.bundles ≡ 12 = search rules in
    let few = length-take-le args.n args.bundles (omega arith) in
    let l = c.loop-bundle-test.true in
    (search rules, count_more args.bundles at.bundle-index _ _ at.invariant.1 (c.size-count.ensures ∙ ap (λ (x : ℕ). size 64 (bit x)) (get_or-take args.n args.bundles at.bundle-index 0 (omega arith))))

pub returns : goal.returns
returns c = let args = c.args in
    let at = c.loop-bundle in
    let long : length args.bundles ≡ 12 = search rules in
    let few = length-take-le args.n args.bundles (omega arith) in
    let inside = at.invariant.0 in
    let past = c.loop-bundle-test.false in
    count_done args.bundles args.n at.bundle-index _ c.requires (omega arith) (omega arith) at.invariant.1
