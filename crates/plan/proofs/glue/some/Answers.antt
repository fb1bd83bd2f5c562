use Prim.Native.Nat.{ℕ, ◌<◌}
use mathlib.Core.Path.{◌≡◌, refl, ap, ◌∙◌}
use native.Mathlib.Omega.{arith}
use lib.Dec.{ltb}
use lib.ListN.{length}
use Rattle.matroid.specs.Set.{size}
use Rattle.matroid.proofs.Sets.{size_le}
use Rattle.judge.specs.Fault.{named}
use Rattle.plan.proofs.Gluing.{count_next, glued_here, free_here}
use Rattle.plan.proofs.glue.some.Goals as goal
use Rattle.plan.proofs.glue.some.Goals.{else-team, then-team}

pub loop-team-init : goal.loop-team-init
loop-team-init c = refl

pub overflow_add-count : goal.overflow_add-count
overflow_add-count c = let at = c.loop-team in
    let few = size_le at.team-index (named c.args.glue.now) in
    omega (arith, few, at.invariant, c.loop-team-test.true, c.requires)

pub loop-team-preserved : goal.loop-team-preserved
loop-team-preserved c = let at = c.loop-team in
    let glue = c.args.glue.now in
    let i = at.team-index in
    let below : i < length glue = omega (arith, c.loop-team-test.true) in
    let next = count_next (named glue) i in
    elim c.if-team.branch [ then-team w ↦ let here = glued_here glue i _ below w.if-team.true in omega (arith, w.count-is, at.invariant, here, next) | else-team w ↦ let here = free_here glue i _ below w.if-team.false in omega (arith, w.count-is, at.invariant, here, next) ]

pub returns : goal.returns
returns c = let at = c.loop-team in
    let e : at.team-index ≡ 64 = omega (arith, c.loop-team-test.false, c.requires) in
    ap (ltb 0) (at.invariant ∙ ap (λ (k : ℕ). size k (named c.args.glue.now)) e)
