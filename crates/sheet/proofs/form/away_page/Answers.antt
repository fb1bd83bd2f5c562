use Rattle.std.proofs.lemmas.Result.{err_from_is_err_and}
use Prim.Native.Nat.{ℕ, ◌+◌}
use mathlib.Core.Path.{refl, ap, ◌∙◌}
use mathlib.Core.List.{List, [], ◌∷◌}
use native.Mathlib.Omega.{arith}
use Rattle.matroid.specs.Cuts.{each}
use Rattle.sheet.specs.Form.{Test, is, command, tested}
use Rattle.sheet.proofs.Commands.{part_one}
use Rattle.sheet.proofs.Testing.{piece_err, piece_next}
use Rattle.sheet.proofs.form.away_page.Goals as goal

pub returns-in_err-command : goal.returns-in_err-command
returns-in_err-command c = let p = err_from_is_err_and c.from_residual.result c.from_residual.ensures.1 in rw (p.1, p.2) (piece_err c.args.sheet.now (command 20 c.args.t) _ c.args.at _ _ c.command.ensures c.in_err-command.was)

pub returns-in_err-zeros : goal.returns-in_err-zeros
returns-in_err-zeros c = let p = err_from_is_err_and c.from_residual-in_err-zeros.result c.from_residual-in_err-zeros.ensures.1 in
    rw (p.1, p.2)
    (piece_next c.args.sheet.now (command 20 c.args.t) _ c.args.at (c.args.at + 2) _ _ _ c.command.ensures c.in_ok-command.was refl
    (piece_err c.args.sheet.now (each 9 (λ k. is 0 ∷ [])) _ (c.args.at + 2) _ _ c.zeros.ensures c.in_err-zeros.was))

pub returns : goal.returns
returns c =
    piece_next c.args.sheet.now (command 20 c.args.t) _ c.args.at (c.args.at + 2) _ _ _ c.command.ensures c.in_ok-command.was refl
    (piece_next c.args.sheet.now (each 9 (λ k. is 0 ∷ [])) _ (c.args.at + 2) (c.args.at + 11) _ _ _ c.zeros.ensures c.in_ok-zeros.was (omega arith)
    (c.parts.ensures ∙ ap (λ (part : ℕ → List Test). tested (each c.args.m part) c.args.sheet.now (c.args.at + 11)) part_one))
