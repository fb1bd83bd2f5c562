use Prim.Native.Nat.{ℕ}
use mathlib.Core.Path.{refl, sym}
use native.Mathlib.Omega.{arith}
use lib.ListN.{replicate, length-replicate}
use lib.Seq.{length-take-le}
use Rattle.listing.proofs.Accepted.{built_sheet, week_listed, week_refused}
use Rattle.listing.proofs.week.Goals as goal

pub slice_bounds-sheet-end : goal.slice_bounds-sheet-end
slice_bounds-sheet-end c = (built_sheet _ _ _ _ _ c.in-Ok.ensures.bytes refl).inside

pub slice_bounds-list-end : goal.slice_bounds-list-end
slice_bounds-list-end c = sym (length-take-le _ _ (built_sheet _ _ _ _ _ c.in-Ok.ensures.bytes refl).inside)

pub returns-in-Err : goal.returns-in-Err
returns-in-Err c = week_refused _ (replicate 2642 0) _ _ _ _ _ _ (let l = length-replicate {A = ℕ} 2642 0 in omega arith) c.in-Err.ensures.answer refl c.refusal.ensures.answer c.refusal.ensures.bytes

pub returns-in-Ok : goal.returns-in-Ok
returns-in-Ok c = week_listed _ _ _ _ _ (built_sheet _ _ _ _ _ c.in-Ok.ensures.bytes refl).accepted c.list.ensures.answer c.list.ensures.bytes
