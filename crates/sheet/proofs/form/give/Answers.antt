use Rattle.std.proofs.lemmas.Result.{err_from_is_err_and}
use Prim.Native.Nat.{◌+◌}
use mathlib.Core.Path.{refl}
use native.Mathlib.Omega.{arith}
use Rattle.sheet.specs.Form.{holder, command}
use Rattle.sheet.proofs.Commands.{holder_none, holder_team, holder_pool}
use Rattle.sheet.proofs.Testing.{byte_stop, byte_next, none_left, piece_err, piece_next}
use Rattle.sheet.proofs.form.give.Goals as goal
use Rattle.sheet.proofs.form.give.Goals.{else-n-t-via-then-n-t+else-t-ne255, else-n-t-via-else-n-t}

pub returns-in_err-command : goal.returns-in_err-command
returns-in_err-command c = let p = err_from_is_err_and c.from_residual.result c.from_residual.ensures.1 in rw (p.1, p.2) (piece_err c.args.sheet.now (command 18 c.args.g) _ c.args.at _ _ c.command.ensures c.in_err-command.was)

pub returns-then-t-ne255 : goal.returns-then-t-ne255
returns-then-t-ne255 c = piece_next c.args.sheet.now (command 18 c.args.g) _ c.args.at (c.args.at + 2) _ _ _ c.command.ensures c.in_ok-command.was refl
    (byte_stop c.args.sheet.now (holder c.args.n) _ (c.args.at + 2) (holder_none _ _ _ c.wide-t.ensures c.if-n-t.true c.if-t-ne255.true))

pub returns : goal.returns
returns c = piece_next c.args.sheet.now (command 18 c.args.g) _ c.args.at (c.args.at + 2) _ _ _ c.command.ensures c.in_ok-command.was refl
    (byte_next c.args.sheet.now (holder c.args.n) _ (c.args.at + 2) (c.args.at + 3) _
    (elim c.else-n-t.branch [ else-n-t-via-then-n-t+else-t-ne255 w ↦ holder_pool _ _ _ c.wide-t.ensures w.if-t-ne255.false | else-n-t-via-else-n-t w ↦ holder_team _ _ _ c.wide-t.ensures w.if-n-t.false ])
    (omega arith) (none_left c.args.sheet.now (c.args.at + 3)))
