use Rattle.std.proofs.lemmas.Result.{err_from_is_err_and}
use Prim.Native.Nat.{ℕ, ◌+◌, ◌*◌}
use mathlib.Core.Path.{refl, ap, ◌∙◌}
use mathlib.Core.List.{◌++◌}
use native.Mathlib.Omega.{arith}
use Rattle.matroid.specs.Cuts.{each}
use Rattle.sets.specs.Bits.{bit}
use Rattle.sheet.specs.Form.{head, give, bound, page, end, form, tested}
use Rattle.sheet.proofs.Sizes.{end_inside}
use Rattle.sheet.proofs.Faults.{length_each}
use Rattle.sheet.proofs.Commands.{bound_length}
use Rattle.sheet.proofs.Testing.{piece_err, piece_next}
use Rattle.sheet.proofs.form.whole.Goals as goal

pub head-requires : goal.head-requires
head-requires c = omega (arith, end_inside c.args.m c.args.n, c.requires.2)

pub returns-in_err-head : goal.returns-in_err-head
unfolding form
returns-in_err-head c = let p = err_from_is_err_and c.from_residual.result c.from_residual.ensures.1 in rw (p.1, p.2) (piece_err c.args.sheet.now (head c.args.m c.args.n) _ 0 _ _ c.head.ensures c.in_err-head.was)

pub gives-requires : goal.gives-requires
gives-requires c = (c.requires.0, omega (arith, end_inside c.args.m c.args.n, c.requires.2))

pub returns-in_err-gives : goal.returns-in_err-gives
unfolding form
returns-in_err-gives c = let p = err_from_is_err_and c.from_residual-in_err-gives.result c.from_residual-in_err-gives.ensures.1 in let args = c.args in
    rw (p.1, p.2)
    (piece_next args.sheet.now (head args.m args.n) _ 0 4 _ _ _ c.head.ensures c.in_ok-head.was refl
    (piece_err args.sheet.now (each args.m (give args.n)) _ 4 _ _ c.gives.ensures c.in_err-gives.was))

pub bound-requires : goal.bound-requires
bound-requires c = omega (arith, end_inside c.args.m c.args.n, c.requires.2, c.bound_start.ensures)

pub returns-in_err-bound : goal.returns-in_err-bound
unfolding form
returns-in_err-bound c = let p = err_from_is_err_and c.from_residual-in_err-bound.result c.from_residual-in_err-bound.ensures.1 in let args = c.args in
    let is_at = c.bound_start.ensures in
    let long = length_each args.sheet.now (give args.n) 3 (λ g. refl) args.m in
    rw (p.1, p.2)
    (piece_next args.sheet.now (head args.m args.n) _ 0 4 _ _ _ c.head.ensures c.in_ok-head.was refl
    (piece_next args.sheet.now (each args.m (give args.n)) _ 4 c.bound_start.result _ _ _ c.gives.ensures c.in_ok-gives.was (omega arith)
    (piece_err args.sheet.now (bound args.m) _ c.bound_start.result _ _ c.bound.ensures c.in_err-bound.was)))

pub returns : goal.returns
unfolding form
returns c = let args = c.args in
    let is_at = c.bound_start.ensures in
    let gives_long = length_each args.sheet.now (give args.n) 3 (λ g. refl) args.m in
    let bound_long = bound_length args.m in
    piece_next args.sheet.now (head args.m args.n) _ 0 4 _ _ _ c.head.ensures c.in_ok-head.was refl
    (piece_next args.sheet.now (each args.m (give args.n)) _ 4 c.bound_start.result _ _ _ c.gives.ensures c.in_ok-gives.was (omega arith)
    (piece_next args.sheet.now (bound args.m) _ c.bound_start.result (4 + 3 * args.m + 9) _ _ _ c.bound.ensures c.in_ok-bound.was (omega arith)
    (c.pages.ensures ∙ ap (λ (p : ℕ). tested (each args.n (page args.m p (bit args.here)) ++ end) args.sheet.now (4 + 3 * args.m + 9)) c.size_below.ensures)))
