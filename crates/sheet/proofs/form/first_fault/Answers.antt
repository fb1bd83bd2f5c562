use native.Mathlib.Omega.{arith}
use Rattle.sets.specs.Bits.{bit}
use Rattle.sheet.specs.Form.{form}
use Rattle.sheet.proofs.Faults.{fault_to}
use Rattle.sheet.proofs.Forming.{form_length}
use Rattle.sheet.proofs.Testing.{err_fault, ok_fault}
use Rattle.sheet.proofs.form.first_fault.Goals as goal

pub returns-in-Ok : goal.returns-in-Ok
returns-in-Ok c = let args = c.args in
    let tests = form args.m args.n (bit args.here) in
    let least = ok_fault args.sheet.now tests 0 _ _ c.whole.ensures c.in-Ok.is in
    let most = fault_to args.sheet.now tests 0 in
    let long = form_length args.sheet.now args.m args.n (bit args.here) in
    let e = c.length.ensures in
    omega arith

pub returns-in-Err : goal.returns-in-Err
returns-in-Err c = (err_fault c.args.sheet.now (form c.args.m c.args.n (bit c.args.here)) 0 _ _ c.whole.ensures c.in-Err.is).0
