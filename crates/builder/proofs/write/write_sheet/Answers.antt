use native.Mathlib.Omega.{arith}
use Rattle.sheet.proofs.Places.{share_first, end_last}
use Rattle.builder.proofs.Pages.{share_le, written}
use Rattle.builder.proofs.write.write_sheet.Goals as goal

pub overflow_cast-m : goal.overflow_cast-m
overflow_cast-m c = omega (arith, c.requires.1)

pub overflow_cast-n : goal.overflow_cast-n
overflow_cast-n c = omega (arith, c.requires.2)

pub write_three-requires : goal.write_three-requires
write_three-requires c = let e = end_last c.args.m c.args.n in let f = share_first c.args.m in let l = share_le c.args.m c.args.n in omega (arith, c.requires.0)

pub write_byte-requires : goal.write_byte-requires
write_byte-requires c = let e = end_last c.args.m c.args.n in let f = share_first c.args.m in let l = share_le c.args.m c.args.n in omega (arith, c.requires.0, c.write_three.ensures.long)

pub write_rows-requires : goal.write_rows-requires
write_rows-requires c = let e = end_last c.args.m c.args.n in let f = share_first c.args.m in let l = share_le c.args.m c.args.n in (omega (arith, c.requires.0, c.write_three.ensures.long, c.write_byte.ensures.long), c.requires.1)

pub write_byte-requires-2 : goal.write_byte-requires-2
write_byte-requires-2 c = let e = end_last c.args.m c.args.n in let f = share_first c.args.m in let l = share_le c.args.m c.args.n in omega (arith, c.requires.0, c.write_three.ensures.long, c.write_byte.ensures.long, c.write_rows.ensures.long)

pub write_set-requires : goal.write_set-requires
write_set-requires c = let e = end_last c.args.m c.args.n in let f = share_first c.args.m in let l = share_le c.args.m c.args.n in omega (arith, c.requires.0, c.write_three.ensures.long, c.write_byte.ensures.long, c.write_rows.ensures.long, c.write_byte-2.ensures.long)

pub write_pages-requires : goal.write_pages-requires
write_pages-requires c = let e = end_last c.args.m c.args.n in let f = share_first c.args.m in let l = share_le c.args.m c.args.n in (omega (arith, c.requires.0, c.write_three.ensures.long, c.write_byte.ensures.long, c.write_rows.ensures.long, c.write_byte-2.ensures.long, c.write_set.ensures.long), c.requires.1, c.requires.2)

pub share_start-requires : goal.share_start-requires
share_start-requires c = (c.requires.1, c.requires.2)

pub write_byte-requires-3 : goal.write_byte-requires-3
write_byte-requires-3 c = let e = end_last c.args.m c.args.n in let f = share_first c.args.m in let l = share_le c.args.m c.args.n in omega (arith, c.requires.0, c.write_three.ensures.long, c.write_byte.ensures.long, c.write_rows.ensures.long, c.write_byte-2.ensures.long, c.write_set.ensures.long, c.write_pages.ensures.long, c.share_start.ensures)

pub returns : goal.returns
returns c = written _ _ _ _ _ _ _ _ _ _ _ c.args.d c.write_three.ensures c.write_byte.ensures c.write_rows.ensures c.write_byte-2.ensures c.write_set.ensures c.write_pages.ensures (rw c.share_start.ensures at c.write_byte-3.ensures)
