use mathlib.Core.Path.{◌∙◌}
use Rattle.row.proofs.Rows.{days_read}
use Rattle.row.proofs.days.Goals as goal

pub returns : goal.returns
returns c = c.given.ensures ∙ days_read _ c.requires
