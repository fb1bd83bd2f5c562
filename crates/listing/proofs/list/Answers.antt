use mathlib.Core.Path.{refl}
use native.Mathlib.Omega.{arith}
use Rattle.std.proofs.lemmas.Result.{err_from_is_err_and}
use Rattle.listing.proofs.Accepted.{shaped, shape_fits, list_accepted, list_refused}
use Rattle.listing.proofs.list.Goals as goal

pub returns-in_err-check : goal.returns-in_err-check
returns-in_err-check c = let p = err_from_is_err_and c.from_residual.result c.from_residual.ensures.1 in
    let h = list_refused _ _ _ _ _ c.check.ensures.verdict c.in_err-check.was in
    rw (p.1, p.2) (record { answer = h.0; bytes = h.1 })

pub bounds-sheet-1 : goal.bounds-sheet-1
bounds-sheet-1 c = let l = (shaped _ _ _ c.check.ensures.verdict c.in_ok-check.was).head in omega arith

pub bounds-sheet-2 : goal.bounds-sheet-2
bounds-sheet-2 c = let l = (shaped _ _ _ c.check.ensures.verdict c.in_ok-check.was).head in omega arith

pub fitted-requires : goal.fitted-requires
fitted-requires c = shape_fits (shaped _ _ _ c.check.ensures.verdict c.in_ok-check.was) c.wide.ensures c.wide-2.ensures

pub returns : goal.returns
returns c = let h = list_accepted _ _ _ _ _ _ _ _ c.check.ensures.verdict c.in_ok-check.was c.wide.ensures c.wide-2.ensures c.fitted.ensures.answer c.fitted.ensures.bytes in record { answer = h.0; bytes = h.1 }
