use Rattle.loops.proofs.Joining.{loops_grown}
use Rattle.loops.proofs.grown.Goals as goal

pub returns : goal.returns
returns c = let (_, held) = c.of-forest.ensures in
    loops_grown _ _ _ _ _ c.requires held _ _ _ c.carry.ensures _ _ _ c.all_below.ensures c.both.ensures c.if-forest-both.false c.either.ensures
