use mathlib.Core.Path.{sym, ap, ◌∙◌, subst}
use Rattle.desk.specs.Desk.{desk_built}
use Rattle.desk.proofs.Small.{SmallAnswer, list_small}
use Rattle.desk.proofs.pool_list.Goals as goal

pub number_for_c-requires : goal.number_for_c-requires
number_for_c-requires c = subst SmallAnswer (sym c.list.ensures.answer) (list_small c.args.plan.now c.args.sheet.now c.args.buffer.now)

pub returns : goal.returns
returns c = record { answer = c.number_for_c.ensures ∙ ap desk_built c.list.ensures.answer; bytes = c.list.ensures.bytes }
