use Rattle.engine.proofs.Dividing.{divide_levellable}
use Rattle.engine.proofs.divide.divide.Goals as goal

pub level-holding-requires : goal.level-holding-requires
level-holding-requires c = divide_levellable _ _ _ _ _ _ c.requires.1 c.fill-f.ensures c.all_shares-shares.ensures c.targets_of-targets.ensures
