use mathlib.Core.Path.{ap, ◌∙◌}
use Rattle.desk.specs.Desk.{desk_worth}
use Rattle.desk.proofs.Small.{worth_small}
use Rattle.desk.proofs.pool_worth.Goals as goal

pub number_for_c-requires : goal.number_for_c-requires
number_for_c-requires c = worth_small _ _ _ _ c.worth.ensures.told

pub returns : goal.returns
returns c = c.number_for_c.ensures ∙ ap desk_worth c.worth.ensures.answer
