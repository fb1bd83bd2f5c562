use mathlib.Core.Path.{refl}
use native.Mathlib.Omega.{arith}
use Rattle.plan.proofs.Bounds.{valid_reading}
use Rattle.checker.proofs.Answers.{stretch_none, stretch_refused, stretch_valid, stretch_ends, stretch_given}
use Rattle.checker.proofs.page_stretch.Goals as goal
use Rattle.checker.proofs.page_stretch.Goals.{else-team-r-via-then-team-r+else-is_ok, else-team-r-via-else-team-r}

pub judge-requires : goal.judge-requires
judge-requires c = valid_reading c.args.plan.now c.read-r.result c.read-r.ensures

pub share_start-start-requires : goal.share_start-start-requires
share_start-start-requires c = let v = stretch_valid c.args.plan.now c.args.sheet.now c.read-r.result c.read-r.ensures c.args.team c.judge.result c.is_ok.result c.judge.ensures c.is_ok.ensures.value c.if-team-r.true c.if-is_ok.true in let f = v.few in (v.small, omega arith)

pub overflow_add-end : goal.overflow_add-end
overflow_add-end c = let l = stretch_ends c.args.plan.now c.args.sheet.now c.read-r.result c.read-r.ensures c.args.team c.judge.result c.is_ok.result c.judge.ensures c.is_ok.ensures.value c.if-team-r.true c.if-is_ok.true _ c.share_start-start.ensures in omega arith

pub overflow_mul-end : goal.overflow_mul-end
overflow_mul-end c = let l = stretch_ends c.args.plan.now c.args.sheet.now c.read-r.result c.read-r.ensures c.args.team c.judge.result c.is_ok.result c.judge.ensures c.is_ok.ensures.value c.if-team-r.true c.if-is_ok.true _ c.share_start-start.ensures in omega arith

pub overflow_add-end-then-is_ok : goal.overflow_add-end-then-is_ok
overflow_add-end-then-is_ok c = let l = stretch_ends c.args.plan.now c.args.sheet.now c.read-r.result c.read-r.ensures c.args.team c.judge.result c.is_ok.result c.judge.ensures c.is_ok.ensures.value c.if-team-r.true c.if-is_ok.true _ c.share_start-start.ensures in omega arith

pub returns-then-is_ok : goal.returns-then-is_ok
returns-then-is_ok c = stretch_given c.args.plan.now c.args.sheet.now c.read-r.result c.read-r.ensures c.args.team c.judge.result c.is_ok.result c.judge.ensures c.is_ok.ensures.value c.if-team-r.true c.if-is_ok.true _ _ c.share_start-start.ensures refl

pub returns : goal.returns
returns c = elim c.else-team-r.branch [
  | else-team-r-via-then-team-r+else-is_ok w ↦ stretch_refused c.args.plan.now c.args.sheet.now c.read-r.result c.read-r.ensures c.args.team w.judge.result w.is_ok.result w.judge.ensures w.is_ok.ensures.value w.if-team-r.true w.if-is_ok.false
  | else-team-r-via-else-team-r w ↦ stretch_none c.args.plan.now c.args.sheet.now c.read-r.result c.read-r.ensures c.args.team w.if-team-r.false
]
