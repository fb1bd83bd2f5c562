use Rattle.std.proofs.lemmas.Result.{err_from_is_err_and}
use mathlib.Core.Path.{refl, sym, ◌∙◌}
use borrow.Author.Tests.{eq-eqb, ne_eqb}
use Rattle.sheet.specs.Form.{is, any, command}
use Rattle.sheet.proofs.Testing.{byte_stop, byte_next, none_left, piece_err, piece_next}
use Rattle.sheet.proofs.form.head.Goals as goal

pub returns-in_err-command : goal.returns-in_err-command
returns-in_err-command c = let p = err_from_is_err_and c.from_residual.result c.from_residual.ensures.1 in rw (p.1, p.2) (piece_err c.args.sheet.now (command 17 c.args.m) _ 0 _ _ c.command.ensures c.in_err-command.was)

pub returns-then-wide-n : goal.returns-then-wide-n
returns-then-wide-n c = piece_next c.args.sheet.now (command 17 c.args.m) _ 0 2 _ _ _ c.command.ensures c.in_ok-command.was refl
    (byte_stop c.args.sheet.now (is c.args.n) _ 2 (ne_eqb _ _ (λ e. c.if-wide-n.true (c.wide.ensures ∙ e))))

pub returns : goal.returns
returns c = piece_next c.args.sheet.now (command 17 c.args.m) _ 0 2 _ _ _ c.command.ensures c.in_ok-command.was refl
    (byte_next c.args.sheet.now (is c.args.n) _ 2 3 _ (eq-eqb _ _ (sym c.wide.ensures ∙ c.if-wide-n.false)) refl
    (byte_next c.args.sheet.now any _ 3 4 _ refl refl (none_left c.args.sheet.now 4)))
