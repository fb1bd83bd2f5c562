use Rattle.kinds.proofs.blank.Goals as goal

pub returns : goal.returns
returns c = rw c.blank-team.ensures
