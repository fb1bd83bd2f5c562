use Rattle.std.proofs.lemmas.Result.{err_from_is_err_and}
use Prim.Native.Nat.{◌+◌, ◌<◌, ◌≤◌}
use mathlib.Core.Path.{refl}
use native.Mathlib.Omega.{arith}
use lib.ListN.{get_or}
use borrow.Author.Tests.{lt-ltb, le-ltb}
use Rattle.sheet.specs.Form.{below, command}
use Rattle.sheet.proofs.Testing.{byte_stop, byte_next, none_left, piece_err, piece_next}
use Rattle.sheet.proofs.form.part.Goals as goal

pub returns-in_err-command : goal.returns-in_err-command
returns-in_err-command c = let p = err_from_is_err_and c.from_residual.result c.from_residual.ensures.1 in rw (p.1, p.2) (piece_err c.args.sheet.now (command 21 c.args.g) _ c.args.at _ _ c.command.ensures c.in_err-command.was)

pub returns-then-p-wide : goal.returns-then-p-wide
returns-then-p-wide c = let e = c.wide.ensures in let l : c.args.p ≤ get_or c.args.sheet.now (c.args.at + 2) 0 = omega arith in
    piece_next c.args.sheet.now (command 21 c.args.g) _ c.args.at (c.args.at + 2) _ _ _ c.command.ensures c.in_ok-command.was refl
    (byte_stop c.args.sheet.now (below c.args.p) _ (c.args.at + 2) (le-ltb _ _ l))

pub returns : goal.returns
returns c = let e = c.wide.ensures in let l : get_or c.args.sheet.now (c.args.at + 2) 0 < c.args.p = omega arith in
    piece_next c.args.sheet.now (command 21 c.args.g) _ c.args.at (c.args.at + 2) _ _ _ c.command.ensures c.in_ok-command.was refl
    (byte_next c.args.sheet.now (below c.args.p) _ (c.args.at + 2) (c.args.at + 3) _ (lt-ltb _ _ l) (omega arith) (none_left c.args.sheet.now (c.args.at + 3)))
