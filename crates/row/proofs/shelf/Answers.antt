use mathlib.Core.Path.{◌∙◌}
use Rattle.row.proofs.Rows.{shelf_read}
use Rattle.row.proofs.shelf.Goals as goal

pub returns : goal.returns
returns c = c.given.ensures ∙ shelf_read _ c.requires.0 _ c.requires.1
