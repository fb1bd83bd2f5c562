use Prim.Native.Nat.{◌<◌}
use mathlib.Core.Path.{refl}
use native.Mathlib.Omega.{arith}
use Rattle.std.proofs.Common.{length-take, get_or-take}
use Rattle.engine.proofs.Greedily.{turn_next}
use Rattle.engine.proofs.greedy.round.Goals as goal

pub loop-t-preserved : goal.loop-t-preserved
loop-t-preserved c = let s = c.args.s in
    let below : c.loop-t.t < s.n = omega (arith, c.loop-t-test.true, length-take s.n s.valuations) in
    turn_next _ _ _ _ _ c.loop-t.invariant below _ _ (get_or-take s.n s.valuations c.loop-t.t _ below) _ _ _ c.grown-larger.ensures c.minus-fresh.ensures _ c.assign.ensures _ c.minus-pool.ensures _ refl
