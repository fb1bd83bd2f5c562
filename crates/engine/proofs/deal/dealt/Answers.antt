use Rattle.engine.proofs.Dealing.{dealing_none, dealing_done, dealing_next}
use Rattle.engine.proofs.deal.dealt.Goals as goal

pub loop-p-init : goal.loop-p-init
loop-p-init c = dealing_none _ _ _ _ _ c.requires.0 c.requires.1 c.all_below-left.ensures

pub loop-p-preserved : goal.loop-p-preserved
loop-p-preserved c = dealing_next _ _ _ _ _ _ _ c.loop-p.invariant c.requires.0 c.loop-p-test.true _ _ c.grown-bundle.ensures _ c.size.ensures c.if-size-share.false _ c.assign.ensures _ c.minus-left.ensures

pub returns-then-size-share : goal.returns-then-size-share
returns-then-size-share c = c.loop-p.invariant.below

pub returns : goal.returns
returns c = dealing_done _ _ _ _ _ _ _ c.loop-p.invariant c.loop-p-test.false
