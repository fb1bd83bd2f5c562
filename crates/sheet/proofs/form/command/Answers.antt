use Prim.Native.Nat.{◌+◌}
use mathlib.Core.Path.{refl, sym, ◌∙◌}
use native.Mathlib.Omega.{arith}
use borrow.Author.Tests.{eq-eqb, ne_eqb}
use Rattle.sheet.specs.Form.{is}
use Rattle.sheet.proofs.Testing.{byte_stop, byte_next, none_left}
use Rattle.sheet.proofs.form.command.Goals as goal

pub returns-then-sheet-at : goal.returns-then-sheet-at
returns-then-sheet-at c = byte_stop c.args.sheet.now (is c.args.byte) _ c.args.at (ne_eqb _ _ c.if-sheet-at.true)

pub returns-then-wide-number : goal.returns-then-wide-number
returns-then-wide-number c = byte_next c.args.sheet.now (is c.args.byte) _ c.args.at (c.args.at + 1) _ (eq-eqb _ _ c.if-sheet-at.false) refl
    (byte_stop c.args.sheet.now (is c.args.number) _ (c.args.at + 1) (ne_eqb _ _ (λ e. c.if-wide-number.true (c.wide.ensures ∙ e))))

pub returns : goal.returns
returns c = byte_next c.args.sheet.now (is c.args.byte) _ c.args.at (c.args.at + 1) _ (eq-eqb _ _ c.if-sheet-at.false) refl
    (byte_next c.args.sheet.now (is c.args.number) _ (c.args.at + 1) (c.args.at + 2) _ (eq-eqb _ _ (sym c.wide.ensures ∙ c.if-wide-number.false)) (omega arith) (none_left c.args.sheet.now (c.args.at + 2)))
