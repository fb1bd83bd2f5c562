use mathlib.Core.Path.{sym, ap, ◌∙◌, subst}
use Rattle.checker.specs.Verdict.{Verdict}
use Rattle.checker.specs.Check.{check_sheet}
use Rattle.std.proofs.Common.{Ok}
use Rattle.std.specs.Result.{result_and}
use Rattle.desk.specs.Desk.{desk_built, desk_verdict}
use Rattle.desk.proofs.Small.{SmallAnswer, verdict_small, verdict_and_small, verdict_and_told}
use Rattle.desk.proofs.pool_check.Goals as goal

pub number_for_c-requires : goal.number_for_c-requires
number_for_c-requires c = subst SmallAnswer (sym (c.and.ensures ∙ ap (λ (v : Verdict). result_and v (Ok 0)) c.check.ensures.verdict)) (verdict_and_small (check_sheet c.args.plan.now c.args.sheet.now) (verdict_small c.args.plan.now c.args.sheet.now))

pub returns : goal.returns
returns c = c.number_for_c.ensures ∙ ap desk_built c.and.ensures ∙ verdict_and_told _ ∙ ap desk_verdict c.check.ensures.verdict
