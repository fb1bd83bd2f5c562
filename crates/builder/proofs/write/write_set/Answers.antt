use mathlib.Core.Path.{◌∙◌}
use native.Mathlib.Omega.{arith}
use Rattle.builder.proofs.Rowing.{row_set}
use Rattle.builder.proofs.write.write_set.Goals as goal

pub returns : goal.returns
returns c = row_set _ _ _ _ _ (omega arith) c.requires (c.copy_from_slice.ensures.after ∙ c.to_le_bytes.ensures)
