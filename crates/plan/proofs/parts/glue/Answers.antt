use mathlib.Core.Path.{ap, ◌∙◌}
use native.Mathlib.Omega.{arith}
use Rattle.team.specs.declared.Team.{Team}
use Rattle.plan.proofs.Rows.{row_given, given_length}
use Rattle.plan.proofs.parts.glue.Goals as goal

pub names-requires : goal.names-requires
names-requires c = given_length _ _ 13 c.row_at.ensures c.requires (omega arith)

pub returns : goal.returns
returns c = c.names.ensures ∙ ap (λ (t : Team). t.named) (row_given _ _ 13 c.row_at.ensures)
