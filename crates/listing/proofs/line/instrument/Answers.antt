use native.Mathlib.Omega.{arith}
use Rattle.listing.proofs.Lining.{instrument_given, instrument_passed}
use Rattle.listing.proofs.line.instrument.Goals as goal

pub returns-then-sheet-give_start : goal.returns-then-sheet-give_start
returns-then-sheet-give_start c = let args = c.args in record { put = instrument_passed _ _ args.sheet.now args.team args.g _ c.give_start.ensures c.if-sheet-give_start.true; short = omega arith }

pub returns : goal.returns
returns c = let args = c.args in record { put = instrument_given args.sheet.now args.team args.g _ c.give_start.ensures c.if-sheet-give_start.false c.field.ensures.put; short = c.field.ensures.short }
