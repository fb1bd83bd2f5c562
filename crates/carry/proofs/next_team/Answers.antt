use mathlib.Core.Path.{refl}
use Rattle.carry.specs.Carry.{changed_state}
use Rattle.carry.proofs.next_team.Goals as goal

pub returns : goal.returns
unfolding changed_state
returns c = refl
