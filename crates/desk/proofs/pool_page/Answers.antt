use mathlib.Core.Path.{ap}
use native.Mathlib.Omega.{arith}
use Rattle.checker.proofs.Answers.{stretch_inside}
use Rattle.desk.specs.Desk.{desk_page}
use Rattle.desk.proofs.pool_page.Goals as goal

pub overflow_sub-result : goal.overflow_sub-result
overflow_sub-result c = let l = stretch_inside c.args.plan.now c.args.sheet.now c.args.team c.page_stretch-s.result c.page_stretch-s.ensures in omega arith

pub overflow_mul-result : goal.overflow_mul-result
overflow_mul-result c = let l = stretch_inside c.args.plan.now c.args.sheet.now c.args.team c.page_stretch-s.result c.page_stretch-s.ensures in omega arith

pub overflow_add-result : goal.overflow_add-result
overflow_add-result c = let l = stretch_inside c.args.plan.now c.args.sheet.now c.args.team c.page_stretch-s.result c.page_stretch-s.ensures in omega arith

pub returns : goal.returns
returns c = ap desk_page c.page_stretch-s.ensures
