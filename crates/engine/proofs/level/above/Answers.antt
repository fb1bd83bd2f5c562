use native.Mathlib.Omega.{arith}
use Prim.Native.Nat.{◌<◌}
use Rattle.std.proofs.Common.{length-take, get_or-take}
use Rattle.engine.proofs.Leveling.{above_none, above_take, above_skip}
use Rattle.engine.proofs.level.above.Goals as goal
use Rattle.engine.proofs.level.above.Goals.{else-shares-t, then-shares-t}

pub loop-t-init : goal.loop-t-init
loop-t-init c = above_none _ _ _

pub loop-t-preserved : goal.loop-t-preserved
loop-t-preserved c = let n = c.args.n in
    let bundles = c.args.bundles in
    let t = c.loop-t.t in
    let below : t < n = omega (arith, c.loop-t-test.true, length-take n bundles) in
    elim c.if-shares-t.branch [
      | then-shares-t w ↦ rw w.rich-is (above_take _ _ _ _ _ c.loop-t.invariant _ w.if-shares-t.true (rw (get_or-take n bundles t 0 below) at w.either-rich.ensures))
      | else-shares-t w ↦ rw w.rich-is (above_skip _ _ _ _ _ c.loop-t.invariant w.if-shares-t.false)
    ]
