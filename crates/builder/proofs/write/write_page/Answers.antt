use native.Mathlib.Omega.{arith}
use Rattle.builder.proofs.Pages.{page_row}
use Rattle.builder.proofs.write.write_page.Goals as goal

pub write_three-requires : goal.write_three-requires
write_three-requires c = omega (arith, c.requires.0)

pub write_set-requires : goal.write_set-requires
write_set-requires c = omega (arith, c.requires.0, c.write_three.ensures.long)

pub write_rows-requires : goal.write_rows-requires
write_rows-requires c = (omega (arith, c.requires.0, c.write_three.ensures.long, c.write_set.ensures.long), c.requires.1)

pub returns : goal.returns
returns c = page_row _ _ _ _ _ _ _ _ c.write_three.ensures c.write_set.ensures c.write_rows.ensures
