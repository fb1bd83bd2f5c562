use mathlib.Core.Path.{refl, sym}
use native.Mathlib.Omega.{arith}
use lib.Seq.{length-take-le}
use Rattle.demands.proofs.Writing.{answered_written, agrees_refused, agrees_wrote}
use Rattle.demands.proofs.build_and_check.Goals as goal

pub slice_bounds-check-end : goal.slice_bounds-check-end
slice_bounds-check-end c = let w = answered_written _ _ _ _ _ c.in-Ok.ensures.bytes refl in let l = w.inside in let s = w.same in omega arith

pub slice_bounds-check-end-in-Ok : goal.slice_bounds-check-end-in-Ok
slice_bounds-check-end-in-Ok c = let w = answered_written _ _ _ _ _ c.in-Ok.ensures.bytes refl in sym (length-take-le _ _ (let l = w.inside in let s = w.same in omega arith))

pub returns-in-Err : goal.returns-in-Err
returns-in-Err c = agrees_refused _ _ _ _ _ c.in-Err.ensures.told c.in-Err.ensures.bytes refl

pub returns-in-Ok : goal.returns-in-Ok
returns-in-Ok c = agrees_wrote _ _ _ _ _ _ _ c.in-Ok.ensures.told c.in-Ok.ensures.bytes refl c.check.ensures.verdict c.number.ensures
