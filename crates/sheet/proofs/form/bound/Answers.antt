use Prim.Native.Nat.{◌+◌}
use mathlib.Core.Path.{refl}
use borrow.Author.Tests.{eq-eqb, ne_eqb}
use Rattle.sheet.specs.Form.{is}
use Rattle.sheet.proofs.Testing.{byte_stop, byte_next}
use Rattle.sheet.proofs.form.bound.Goals as goal

pub returns-then-sheet-at-ne19 : goal.returns-then-sheet-at-ne19
returns-then-sheet-at-ne19 c = byte_stop c.args.sheet.now (is 19) _ c.args.at (ne_eqb _ _ c.if-sheet-at-ne19.true)

pub returns : goal.returns
returns c = byte_next c.args.sheet.now (is 19) _ c.args.at (c.args.at + 1) _ (eq-eqb _ _ c.if-sheet-at-ne19.false) refl c.set.ensures
