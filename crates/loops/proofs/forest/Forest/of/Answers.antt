use Rattle.loops.proofs.Accepting.{carried_none}
use Rattle.loops.proofs.forest.Forest.of.Goals as goal

pub carry-requires : goal.carry-requires
carry-requires c = (c.requires, carried_none _ _ _ c.alone.ensures)
