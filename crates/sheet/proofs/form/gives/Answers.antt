use Rattle.std.proofs.lemmas.Result.{err_from_is_err_and}
use mathlib.Core.Path.{refl}
use native.Mathlib.Omega.{arith}
use Rattle.sheet.specs.Form.{give}
use Rattle.sheet.proofs.Faults.{each_none}
use Rattle.sheet.proofs.Testing.{row_err, row_next, row_end}
use borrow.Author.Rules.{rules}
use Rattle.sheet.proofs.form.gives.Goals as goal

pub loop-g-init : goal.loop-g-init
loop-g-init c = (search rules, each_none _ (give c.args.n) 3 (λ g. refl) 4)

pub give-requires : goal.give-requires
give-requires c = omega (arith, c.give_start.ensures)

pub returns-in_err-give : goal.returns-in_err-give
returns-in_err-give c = let p = err_from_is_err_and c.from_residual.result c.from_residual.ensures.1 in let is_at = c.give_start.ensures in
    rw (p.1, p.2) (row_err _ (give c.args.n) 3 (λ g. refl) c.args.m c.loop-g.g 4 c.give_start.result _ _ c.loop-g-test.true c.loop-g.invariant.1 (omega arith) c.give.ensures c.in_err-give.was)

pub loop-g-preserved : goal.loop-g-preserved
loop-g-preserved c = let is_at = c.give_start.ensures in
    (search rules, row_next _ (give c.args.n) 3 (λ g. refl) c.loop-g.g 4 c.give_start.result _ _ c.loop-g.invariant.1 (omega arith) c.give.ensures c.in_ok-give.was)

pub returns : goal.returns
returns c = row_end _ (give c.args.n) 3 (λ g. refl) c.args.m c.loop-g.g 4 c.loop-g.invariant.0 c.loop-g-test.false c.loop-g.invariant.1
