use Rattle.std.proofs.lemmas.Result.{err_from_is_err_and}
use Prim.Native.Nat.{◌+◌, ◌*◌}
use mathlib.Core.Path.{refl}
use native.Mathlib.Omega.{arith}
use Rattle.sheet.specs.Form.{part}
use Rattle.sheet.proofs.Faults.{each_none}
use Rattle.sheet.proofs.Testing.{row_err, row_next, row_end}
use borrow.Author.Rules.{rules}
use Rattle.sheet.proofs.form.parts.Goals as goal

pub loop-g-init : goal.loop-g-init
loop-g-init c = (search rules, each_none _ (part c.args.p) 3 (λ g. refl) _)

pub returns-in_err-part : goal.returns-in_err-part
returns-in_err-part c = let p = err_from_is_err_and c.from_residual.result c.from_residual.ensures.1 in
    rw (p.1, p.2) (row_err _ (part c.args.p) 3 (λ g. refl) c.args.m c.loop-g.g c.args.at (c.args.at + 3 * c.loop-g.g) _ _ c.loop-g-test.true c.loop-g.invariant.1 (omega arith) c.part.ensures c.in_err-part.was)

pub loop-g-preserved : goal.loop-g-preserved
loop-g-preserved c = (search rules, row_next _ (part c.args.p) 3 (λ g. refl) c.loop-g.g c.args.at (c.args.at + 3 * c.loop-g.g) _ _ c.loop-g.invariant.1 (omega arith) c.part.ensures c.in_ok-part.was)

pub returns : goal.returns
returns c = row_end _ (part c.args.p) 3 (λ g. refl) c.args.m c.loop-g.g c.args.at c.loop-g.invariant.0 c.loop-g-test.false c.loop-g.invariant.1
