use Prim.Native.Nat.{◌<◌}
use native.Mathlib.Omega.{arith}
use lib.Seq.{length-take-le}
use Rattle.kinds.specs.Valuations.{matroids}
use Rattle.checker.proofs.Bundles.{agent_taken}
use Rattle.checker.proofs.Divided.{bound_none, bound_more, bound_small, bound_done}
use borrow.Author.Rules.{rules}
use Rattle.checker.proofs.division.bound.Goals as goal

pub loop-valuation-init : goal.loop-valuation-init
loop-valuation-init c = (search rules, bound_none (matroids c.args.m c.args.valuations) c.args.set _ c.outside-sum.ensures)

pub overflow_add-sum : goal.overflow_add-sum
overflow_add-sum c = let args = c.args in
    let at = c.loop-valuation in
    let pre = c.requires in
    let few = length-take-le args.n args.valuations (omega (arith, pre.1, pre.2)) in
    let l = c.loop-valuation-test.true in
    let inside : at.valuation-index < args.n = omega arith in
    let agent = agent_taken args.m args.n args.valuations at.valuation-index _ pre.2 pre.1 inside in
    let small = bound_small (matroids args.m args.valuations) args.set at.valuation-index _ agent _ _ at.invariant.1 c.worth_of-sum.ensures pre.0 in
    omega (arith, pre.1)

pub loop-valuation-preserved : goal.loop-valuation-preserved
loop-valuation-preserved c = let args = c.args in
    let at = c.loop-valuation in
    let pre = c.requires in
    let few = length-take-le args.n args.valuations (omega (arith, pre.1, pre.2)) in
    let l = c.loop-valuation-test.true in
    let inside : at.valuation-index < args.n = omega arith in
    let agent = agent_taken args.m args.n args.valuations at.valuation-index _ pre.2 pre.1 inside in
    (search rules, bound_more (matroids args.m args.valuations) args.set at.valuation-index _ agent _ _ at.invariant.1 c.worth_of-sum.ensures)

pub returns : goal.returns
returns c = let args = c.args in
    let at = c.loop-valuation in
    let pre = c.requires in
    let few = length-take-le args.n args.valuations (omega (arith, pre.1, pre.2)) in
    let inside = at.invariant.0 in
    let past = c.loop-valuation-test.false in
    bound_done (matroids args.m args.valuations) args.set args.n at.valuation-index _ (omega arith) (omega arith) at.invariant.1
