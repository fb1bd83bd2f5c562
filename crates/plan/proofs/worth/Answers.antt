use native.Mathlib.Omega.{arith}
use Rattle.std.proofs.lemmas.Result.{err_from_is_err_and}
use Rattle.plan.proofs.Bounds.{valid_reading}
use Rattle.plan.proofs.Valuing.{valued_here, valued_long}
use Rattle.plan.proofs.Answers.{accepted_zero, answer_stopped, answer_worth, answer_absent, answer_told}
use Rattle.plan.proofs.worth.Goals as goal

pub returns-in_err-accepted : goal.returns-in_err-accepted
returns-in_err-accepted c =
    let p = err_from_is_err_and c.from_residual.result c.from_residual.ensures.1 in
    let is = answer_stopped c.args.file.now c.args.team c.args.set _ c.read-r.ensures _ _ c.accepted.ensures c.in_err-accepted.was in
    rw (p.1, p.2) (record { answer = is; told = (answer_told _ _ _ _ is).1 })

pub returns-then-team-r : goal.returns-then-team-r
returns-then-team-r c =
    let z = accepted_zero c.read-r.result _ c.accepted.ensures c.in_ok-accepted.was in
    let is = answer_absent c.args.file.now c.args.team c.args.set _ c.read-r.ensures z c.if-team-r.true in
    record { answer = is; told = (answer_told _ _ _ _ is).1 }

pub valuations_of-valuations-requires : goal.valuations_of-valuations-requires
valuations_of-valuations-requires c = valid_reading _ _ c.read-r.ensures (accepted_zero c.read-r.result _ c.accepted.ensures c.in_ok-accepted.was)

pub offset_bounds-valuations-team : goal.offset_bounds-valuations-team
offset_bounds-valuations-team c = let v = valid_reading _ _ c.read-r.ensures (accepted_zero c.read-r.result _ c.accepted.ensures c.in_ok-accepted.was) in omega (arith, v.few, c.if-team-r.false)

pub bounds-valuations-team : goal.bounds-valuations-team
bounds-valuations-team c = let v = valid_reading _ _ c.read-r.ensures (accepted_zero c.read-r.result _ c.accepted.ensures c.in_ok-accepted.was) in omega (arith, v.few, c.if-team-r.false, valued_long _ _ c.valuations_of-valuations.ensures)

pub worth_of-requires : goal.worth_of-requires
worth_of-requires c = (valid_reading _ _ c.read-r.ensures (accepted_zero c.read-r.result _ c.accepted.ensures c.in_ok-accepted.was)).small

pub returns : goal.returns
returns c = let read = c.read-r.ensures in
    let z = accepted_zero c.read-r.result _ c.accepted.ensures c.in_ok-accepted.was in
    let is = answer_worth c.args.file.now c.args.team c.args.set _ read _ _ z (valued_here _ _ _ _ (valid_reading _ _ read z).few c.if-team-r.false c.valuations_of-valuations.ensures) c.worth_of.ensures in
    record { answer = is; told = (answer_told _ _ _ _ is).1 }
