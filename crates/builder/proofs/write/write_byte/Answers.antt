use Rattle.builder.proofs.Rowing.{row_byte}
use Rattle.builder.proofs.write.write_byte.Goals as goal

pub returns : goal.returns
returns c = row_byte _ _ _ c.requires
