use borrow.Author.Tests.{eq-eqb, ne_eqb}
use Rattle.sheet.proofs.Commands.{bytes_none, bytes_next}
use Rattle.sheet.proofs.Testing.{bytes_err, bytes_end}
use borrow.Author.Rules.{rules}
use Rattle.sheet.proofs.form.zeros.Goals as goal

pub loop-k-init : goal.loop-k-init
loop-k-init c = (search rules, bytes_none _ _ _)

pub returns-then-sheet-at-ne0 : goal.returns-then-sheet-at-ne0
returns-then-sheet-at-ne0 c = bytes_err _ _ _ _ c.loop-k.invariant.1 9 c.loop-k-test.true (ne_eqb _ 0 c.if-sheet-at-ne0.true)

pub loop-k-preserved : goal.loop-k-preserved
loop-k-preserved c = (search rules, bytes_next _ _ _ _ c.loop-k.invariant.1 (eq-eqb _ 0 c.if-sheet-at-ne0.false))

pub returns : goal.returns
returns c = bytes_end _ _ _ _ c.loop-k.invariant.1 9 c.loop-k.invariant.0 c.loop-k-test.false
