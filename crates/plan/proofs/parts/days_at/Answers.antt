use mathlib.Core.Path.{ap, ◌∙◌}
use native.Mathlib.Omega.{arith}
use Rattle.row.specs.Days.{days_of}
use Rattle.plan.proofs.Rows.{row_given, given_length}
use Rattle.plan.proofs.parts.days_at.Goals as goal

pub days-requires : goal.days-requires
days-requires c = given_length _ _ _ c.row_at.ensures c.requires.0 (omega (arith, c.requires.1))

pub returns : goal.returns
returns c = c.days.ensures ∙ ap days_of (row_given _ _ _ c.row_at.ensures)
