use mathlib.Core.Path.{refl}
use Rattle.exchange.proofs.Following.{following_start, following_more, following_end, following_full}
use native.Mathlib.Omega.{arith}
use Rattle.exchange.proofs.chains.moves_back.Goals as goal

pub loop-k-init : goal.loop-k-init
loop-k-init c = following_start _ _ _ c.requires refl

pub loop-k-preserved : goal.loop-k-preserved
loop-k-preserved c = following_more _ _ _ _ c.loop-k.step-items c.loop-k.invariant c.loop-k-test.true _ refl c.if-p-ge64.false

pub returns-then-p-ge64 : goal.returns-then-p-ge64
returns-then-p-ge64 c = following_end _ _ _ _ c.loop-k.step-items c.loop-k.invariant c.loop-k-test.true _ refl c.if-p-ge64.true

pub returns : goal.returns
returns c = following_full _ _ _ _ _ c.loop-k.invariant (omega (arith, c.loop-k-test.false, c.loop-k.auto.k-end))
