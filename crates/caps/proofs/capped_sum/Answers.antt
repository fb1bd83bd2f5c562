use native.Mathlib.Omega.{arith}
use mathlib.Core.Path.{◌∙◌}
use Rattle.caps.proofs.Classes.{sum_none, sum_more}
use Rattle.caps.proofs.capped_sum.Goals as goal

pub loop-c-init : goal.loop-c-init
loop-c-init c = (omega arith, sum_none _ _)

pub loop-c-preserved : goal.loop-c-preserved
loop-c-preserved c = (omega (arith, c.from-total.ensures, c.min.type_inv), sum_more c.args.counts.now c.args.cap.now _ _ _ c.loop-c.invariant.1 (c.from-total.ensures ∙ c.min.ensures))
