use mathlib.Core.Path.{◌≡◌}
use native.Mathlib.Omega.{arith}
use Rattle.sets.proofs.Choosing.{chosen_none, chosen_take, chosen_skip}
use Rattle.sets.proofs.those.Goals as goal
use Rattle.sets.proofs.those.Goals.{then-test, else-test}

pub loop-i-init : goal.loop-i-init
loop-i-init g c = chosen_none _

pub loop-i-preserved : goal.loop-i-preserved
loop-i-preserved g c = elim c.if-test.branch [
  | then-test w ↦ rw w.set-is (chosen_take _ _ _ c.loop-i.invariant _ w.if-test.ensures w.with-set.ensures)
  | else-test w ↦ rw w.set-is (chosen_skip _ _ _ c.loop-i.invariant w.if-test.ensures)
]

pub returns : goal.returns
returns g c = let e : c.loop-i.i ≡ c.args.m = omega arith in rw e at c.loop-i.invariant
