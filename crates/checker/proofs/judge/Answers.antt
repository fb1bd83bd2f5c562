use mathlib.Core.Path.{◌∙◌}
use native.Mathlib.Omega.{arith}
use Rattle.std.proofs.lemmas.Result.{err_from_is_err_and}
use Rattle.plan.proofs.Answers.{accepted_zero}
use Rattle.checker.proofs.Verdicts.{stopped, judge_read, judge_11, judge_12, judge_rest}
use Rattle.checker.proofs.judge.Goals as goal

pub returns-in_err-accepted : goal.returns-in_err-accepted
returns-in_err-accepted c = let p = err_from_is_err_and c.from_residual.result c.from_residual.ensures.1 in
    let e = stopped c.args.r _ _ c.accepted.ensures c.in_err-accepted.was in
    rw (p.1, p.2, e.1) (judge_read c.args.r c.args.sheet.now e.0)

pub length-long-requires : goal.length-long-requires
length-long-requires c = let v = c.requires (accepted_zero c.args.r _ c.accepted.ensures c.in_ok-accepted.was) in (v.small, v.few)

pub returns-then-sheet-long : goal.returns-then-sheet-long
returns-then-sheet-long c = c.refuse.ensures ∙ judge_11 c.args.r c.args.sheet.now (accepted_zero c.args.r _ c.accepted.ensures c.in_ok-accepted.was) _ c.length-long.ensures c.if-sheet-long.true

pub present_of-here-requires : goal.present_of-here-requires
present_of-here-requires c = c.requires (accepted_zero c.args.r _ c.accepted.ensures c.in_ok-accepted.was)

pub first_fault-fault-requires : goal.first_fault-fault-requires
first_fault-fault-requires c = let v = c.requires (accepted_zero c.args.r _ c.accepted.ensures c.in_ok-accepted.was) in let e = c.length-long.ensures in (v.small, v.few, omega arith)

pub returns-then-fault-long : goal.returns-then-fault-long
returns-then-fault-long c = let args = c.args in
    c.refuse-then-fault-long.ensures ∙ judge_12 args.r args.sheet.now (accepted_zero c.args.r _ c.accepted.ensures c.in_ok-accepted.was) _ c.length-long.ensures c.if-sheet-long.false _ c.present_of-here.ensures _ c.first_fault-fault.ensures c.if-fault-long.true

pub weigh-requires : goal.weigh-requires
weigh-requires c = let v = c.requires (accepted_zero c.args.r _ c.accepted.ensures c.in_ok-accepted.was) in let e = c.length-long.ensures in (v, omega arith, c.present_of-here.ensures)

pub returns : goal.returns
returns c = let args = c.args in
    judge_rest args.r args.sheet.now (accepted_zero c.args.r _ c.accepted.ensures c.in_ok-accepted.was) _ c.length-long.ensures c.if-sheet-long.false _ c.present_of-here.ensures _ c.first_fault-fault.ensures c.if-fault-long.false _ c.weigh.ensures
