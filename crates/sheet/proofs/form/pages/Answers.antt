use Rattle.std.proofs.lemmas.Result.{err_from_is_err_and}
use Prim.Native.Nat.{ℕ, ◌+◌, ◌*◌}
use mathlib.Core.Path.{◌≡◌, refl, ◌∙◌}
use native.Mathlib.Omega.{arith}
use borrow.Author.Tests.{eq-eqb, ne_eqb}
use Rattle.matroid.specs.Cuts.{each}
use Rattle.sets.specs.Bits.{bit}
use Rattle.sheet.specs.Layout.{share_start}
use Rattle.sheet.specs.Form.{page, is, end}
use Rattle.sheet.proofs.Sizes.{share_inside, end_inside}
use Rattle.sheet.proofs.Faults.{length_each, each_none}
use Rattle.sheet.proofs.Commands.{page_length_lem}
use Rattle.sheet.proofs.Testing.{row_err, row_next, row_end, piece_err, piece_next, byte_stop, byte_next, none_left}
use borrow.Author.Rules.{rules}
use Rattle.sheet.proofs.form.pages.Goals as goal

start_is : (m t : ℕ) → share_start m t ≡ 4 + 3 * m + 9 + t * (11 + 3 * m)
unfolding share_start
start_is m t = refl

pub loop-t-init : goal.loop-t-init
loop-t-init c = (search rules, each_none _ (page c.args.m c.args.p (bit c.args.here)) (11 + 3 * c.args.m) (page_length_lem c.args.m c.args.p (bit c.args.here)) _)

pub share_start-requires : goal.share_start-requires
share_start-requires c = let l = c.loop-t-test.true in let few = c.requires.1 in (c.requires.0, omega arith)

pub page-requires : goal.page-requires
page-requires c = let args = c.args in
    let e = c.share_start.ensures in
    let few = c.requires.1 in
    (omega (arith, share_inside args.m args.n c.loop-t.t c.loop-t-test.true, c.requires.2), let l = c.loop-t-test.true in omega arith)

pub returns-in_err-page : goal.returns-in_err-page
returns-in_err-page c = let p = err_from_is_err_and c.from_residual.result c.from_residual.ensures.1 in
    let args = c.args in
    let row = page args.m args.p (bit args.here) in
    let is_at = c.share_start.ensures ∙ start_is args.m c.loop-t.t in
    rw (p.1, p.2)
    (piece_err args.sheet.now (each args.n row) end (4 + 3 * args.m + 9) _ _
    (row_err _ row (11 + 3 * args.m) (page_length_lem args.m args.p (bit args.here)) args.n c.loop-t.t (4 + 3 * args.m + 9) c.share_start.result _ _ c.loop-t-test.true c.loop-t.invariant.1 is_at c.page.ensures c.in_err-page.was) refl)

pub loop-t-preserved : goal.loop-t-preserved
loop-t-preserved c = let args = c.args in
    let is_at = c.share_start.ensures ∙ start_is args.m c.loop-t.t in
    (search rules, row_next _ (page args.m args.p (bit args.here)) (11 + 3 * args.m) (page_length_lem args.m args.p (bit args.here)) c.loop-t.t (4 + 3 * args.m + 9) c.share_start.result _ _ c.loop-t.invariant.1 is_at c.page.ensures c.in_ok-page.was)

pub bounds-sheet-last : goal.bounds-sheet-last
bounds-sheet-last c = let e = c.share_start-last.ensures in let f = start_is c.args.m c.args.n in omega (arith, end_inside c.args.m c.args.n, c.requires.2)

pub returns-then-sheet-last-ne22 : goal.returns-then-sheet-last-ne22
returns-then-sheet-last-ne22 c = let args = c.args in
    let row = page args.m args.p (bit args.here) in
    let e = c.share_start-last.ensures in
    let f = start_is args.m args.n in
    let long = length_each args.sheet.now row (11 + 3 * args.m) (page_length_lem args.m args.p (bit args.here)) args.n in
    piece_next args.sheet.now (each args.n row) end (4 + 3 * args.m + 9) c.share_start-last.result _ _ _
    (row_end _ row (11 + 3 * args.m) (page_length_lem args.m args.p (bit args.here)) args.n c.loop-t.t (4 + 3 * args.m + 9) c.loop-t.invariant.0 c.loop-t-test.false c.loop-t.invariant.1) refl (omega arith)
    (byte_stop args.sheet.now (is 22) _ c.share_start-last.result (ne_eqb _ _ c.if-sheet-last-ne22.true))

pub returns : goal.returns
returns c = let args = c.args in
    let row = page args.m args.p (bit args.here) in
    let e = c.share_start-last.ensures in
    let f = start_is args.m args.n in
    let long = length_each args.sheet.now row (11 + 3 * args.m) (page_length_lem args.m args.p (bit args.here)) args.n in
    piece_next args.sheet.now (each args.n row) end (4 + 3 * args.m + 9) c.share_start-last.result _ _ _
    (row_end _ row (11 + 3 * args.m) (page_length_lem args.m args.p (bit args.here)) args.n c.loop-t.t (4 + 3 * args.m + 9) c.loop-t.invariant.0 c.loop-t-test.false c.loop-t.invariant.1) refl (omega arith)
    (byte_next args.sheet.now (is 22) _ c.share_start-last.result (c.share_start-last.result + 1) _ (eq-eqb _ _ c.if-sheet-last-ne22.false) refl (none_left args.sheet.now _))
