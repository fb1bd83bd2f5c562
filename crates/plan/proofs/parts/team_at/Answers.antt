use mathlib.Core.Path.{◌∙◌}
use native.Mathlib.Omega.{arith}
use Rattle.plan.proofs.Rows.{row_given, given_length}
use Rattle.plan.proofs.parts.team_at.Goals as goal

pub team-requires : goal.team-requires
team-requires c = given_length _ _ _ c.row_at.ensures c.requires.0 (omega (arith, c.requires.1))

pub returns : goal.returns
returns c = c.team.ensures ∙ (row_given _ _ _ c.row_at.ensures)
