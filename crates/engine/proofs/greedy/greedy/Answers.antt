use Rattle.engine.proofs.Greedily.{offered_none, offered_sizes}
use Rattle.engine.proofs.greedy.greedy.Goals as goal

pub round-first-requires : goal.round-first-requires
round-first-requires c = offered_none _ _ c.requires c.all_below.ensures

pub of-requires : goal.of-requires
of-requires c = offered_sizes c.args.s _ _ _ _ c.round-third.ensures c.sizes_of-sizes.ensures
