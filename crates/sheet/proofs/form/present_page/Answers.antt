use Rattle.std.proofs.lemmas.Result.{err_from_is_err_and}
use Prim.Native.Nat.{◌+◌}
use mathlib.Core.Path.{refl}
use native.Mathlib.Omega.{arith}
use Rattle.sheet.specs.Form.{any, command, set}
use Rattle.sheet.proofs.Commands.{set_length}
use Rattle.sheet.proofs.Testing.{byte_next, piece_err, piece_next}
use Rattle.sheet.proofs.form.present_page.Goals as goal

pub returns-in_err-command : goal.returns-in_err-command
returns-in_err-command c = let p = err_from_is_err_and c.from_residual.result c.from_residual.ensures.1 in rw (p.1, p.2) (piece_err c.args.sheet.now (command 20 c.args.t) _ c.args.at _ _ c.command.ensures c.in_err-command.was)

pub returns-in_err-set : goal.returns-in_err-set
returns-in_err-set c = let p = err_from_is_err_and c.from_residual-in_err-set.result c.from_residual-in_err-set.ensures.1 in
    rw (p.1, p.2)
    (piece_next c.args.sheet.now (command 20 c.args.t) _ c.args.at (c.args.at + 2) _ _ _ c.command.ensures c.in_ok-command.was refl
    (byte_next c.args.sheet.now any _ (c.args.at + 2) (c.args.at + 3) _ refl (omega arith)
    (piece_err c.args.sheet.now (set c.args.m) _ (c.args.at + 3) _ _ c.set.ensures c.in_err-set.was)))

pub returns : goal.returns
returns c = let long = set_length c.args.m in
    piece_next c.args.sheet.now (command 20 c.args.t) _ c.args.at (c.args.at + 2) _ _ _ c.command.ensures c.in_ok-command.was refl
    (byte_next c.args.sheet.now any _ (c.args.at + 2) (c.args.at + 3) _ refl (omega arith)
    (piece_next c.args.sheet.now (set c.args.m) _ (c.args.at + 3) (c.args.at + 11) _ _ _ c.set.ensures c.in_ok-set.was (omega arith) c.parts.ensures))
