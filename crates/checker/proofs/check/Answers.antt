use Rattle.plan.proofs.Bounds.{valid_reading}
use Rattle.checker.proofs.Answers.{check_verdict, check_fair, check_told}
use Rattle.checker.proofs.check.Goals as goal

pub judge-requires : goal.judge-requires
judge-requires c = valid_reading c.args.plan.now c.read.result c.read.ensures

pub returns : goal.returns
returns c = record { verdict = check_verdict c.args.plan.now c.args.sheet.now _ c.read.ensures _ c.judge.ensures; fair = check_fair c.args.plan.now c.args.sheet.now _ c.read.ensures _ c.judge.ensures; told = check_told c.args.plan.now c.args.sheet.now _ c.read.ensures _ c.judge.ensures }
