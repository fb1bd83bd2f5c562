use mathlib.Core.Path.{◌≡◌}
use native.Mathlib.Omega.{arith}
use Rattle.plan.proofs.Filling.{filled_next, front_none, front_put}
use Rattle.plan.proofs.filled.filled.Goals as goal

pub loop-i-init : goal.loop-i-init
loop-i-init g c = front_none _ _ c.requires.small _ _

pub loop-i-preserved : goal.loop-i-preserved
loop-i-preserved g c = let h = c.loop-i.invariant in filled_next _ _ _ _ _ h (omega (arith, h.long)) _ c.entry.ensures

pub returns : goal.returns
returns g c = let h = c.loop-i.invariant in
    let e : c.loop-i.i ≡ c.args.n = omega (arith, h.long) in front_put _ _ c.requires.small _ _ _ (rw e at h)
