use mathlib.Core.Path.{sym, ap, ◌∙◌, subst}
use Rattle.builder.specs.Build.{Answered}
use Rattle.desk.specs.Desk.{desk_built}
use Rattle.desk.proofs.Small.{SmallAnswer, built_small}
use Rattle.desk.proofs.pool_build.Goals as goal

pub number_for_c-requires : goal.number_for_c-requires
number_for_c-requires c = subst SmallAnswer (sym c.build.ensures.answer) (built_small c.args.plan.now c.args.buffer.now)

pub returns : goal.returns
returns c = record { answer = c.number_for_c.ensures ∙ ap desk_built c.build.ensures.answer; bytes = subst (Answered _ _ _) c.build.ensures.answer c.build.ensures.bytes }
