use lib.ListN.{length-set}
use Rattle.carry.proofs.Writing.{row_named, named_out}
use borrow.Author.Rules.{rules}
use Rattle.carry.proofs.set_named.Goals as goal

pub bounds-row-i-then-instrument-lt64 : goal.bounds-row-i-then-instrument-lt64
bounds-row-i-then-instrument-lt64 c = simp length-set (search rules)

pub bounds-row-i-then-instrument-lt64-2 : goal.bounds-row-i-then-instrument-lt64-2
bounds-row-i-then-instrument-lt64-2 c = simp length-set (search rules)

pub bounds-row-i-then-instrument-lt64-3 : goal.bounds-row-i-then-instrument-lt64-3
bounds-row-i-then-instrument-lt64-3 c = simp length-set (search rules)

pub bounds-row-i-then-instrument-lt64-4 : goal.bounds-row-i-then-instrument-lt64-4
bounds-row-i-then-instrument-lt64-4 c = simp length-set (search rules)

pub returns-then-instrument-lt64 : goal.returns-then-instrument-lt64
returns-then-instrument-lt64 c = rw c.from-i.ensures (row_named _ _ _ _ _ _ _ c.if-instrument-lt64.true)

pub returns-else-instrument-lt64 : goal.returns-else-instrument-lt64
returns-else-instrument-lt64 c = named_out _ c.requires _ _ _ _ _ _ c.if-instrument-lt64.false
