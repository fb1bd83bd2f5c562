use mathlib.Core.Path.{ap}
use native.Mathlib.Omega.{arith}
use Rattle.checker.specs.Page.{bytes_of}
use Rattle.checker.proofs.Answers.{stretch_inside}
use Rattle.checker.proofs.page.Goals as goal

pub slice_bounds-result-count : goal.slice_bounds-result-count
slice_bounds-result-count c = let l = stretch_inside c.args.plan.now c.args.sheet.now c.args.team c.page_stretch-s.result c.page_stretch-s.ensures in omega arith

pub slice_bounds-result-start : goal.slice_bounds-result-start
slice_bounds-result-start c = let l = stretch_inside c.args.plan.now c.args.sheet.now c.args.team c.page_stretch-s.result c.page_stretch-s.ensures in omega arith

pub slice_bounds-result-end : goal.slice_bounds-result-end
slice_bounds-result-end c = let l = stretch_inside c.args.plan.now c.args.sheet.now c.args.team c.page_stretch-s.result c.page_stretch-s.ensures in omega arith

pub returns : goal.returns
returns c = ap (bytes_of c.args.sheet.now) c.page_stretch-s.ensures
