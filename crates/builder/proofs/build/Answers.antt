use Prim.Native.Nat.{ℕ, ◌≤◌}
use mathlib.Core.Path.{refl, subst⁻¹}
use native.Mathlib.Omega.{arith}
use Rattle.plan.proofs.Bounds.{valid_reading}
use Rattle.engine.proofs.Sizes.{held_total, given_le}
use Rattle.std.proofs.lemmas.Result.{err_from_is_err_and}
use Rattle.plan.proofs.Answers.{accepted_zero}
use Rattle.checker.proofs.Verdicts.{stopped}
use Rattle.builder.specs.Build.{untouched}
use Rattle.builder.proofs.Answering.{valid_agents, away_agents, build_told, answer_read, answer_short, answer_wrote, sheet_wrote}
use Rattle.builder.proofs.build.Goals as goal

pub returns-in_err-accepted : goal.returns-in_err-accepted
returns-in_err-accepted c = let p = err_from_is_err_and c.from_residual.result c.from_residual.ensures.1 in
    let s = stopped c.read-r.result _ _ c.accepted.ensures c.in_err-accepted.was in
    let e = answer_read _ c.args.buffer.now _ c.read-r.ensures s.0 in
    rw (p.1, p.2, s.1) (record { answer = e; bytes = untouched _ _ refl; told = build_told _ _ _ e })

pub length-long-requires : goal.length-long-requires
length-long-requires c = let v = valid_reading _ _ c.read-r.ensures (accepted_zero c.read-r.result _ c.accepted.ensures c.in_ok-accepted.was) in (v.small, v.few)

pub returns-then-buffer-long : goal.returns-then-buffer-long
returns-then-buffer-long c = let e = answer_short _ c.args.buffer.now _ c.read-r.ensures (accepted_zero c.read-r.result _ c.accepted.ensures c.in_ok-accepted.was) _ c.length-long.ensures c.if-buffer-long.true in rw c.refuse.ensures (record { answer = e; bytes = untouched _ _ refl; told = build_told _ _ _ e })

pub valuations_of-valuations-requires : goal.valuations_of-valuations-requires
valuations_of-valuations-requires c = valid_reading _ _ c.read-r.ensures (accepted_zero c.read-r.result _ c.accepted.ensures c.in_ok-accepted.was)

pub present_of-requires : goal.present_of-requires
present_of-requires c = valid_reading _ _ c.read-r.ensures (accepted_zero c.read-r.result _ c.accepted.ensures c.in_ok-accepted.was)

pub divide-d-requires : goal.divide-d-requires
divide-d-requires c = let v = valid_reading _ _ c.read-r.ensures (accepted_zero c.read-r.result _ c.accepted.ensures c.in_ok-accepted.was) in
    let row = c.valuations_of-valuations.ensures in
    (valid_agents _ _ v row, away_agents _ _ v row _ c.present_of.ensures)

pub total-total-requires : goal.total-total-requires
total-total-requires c = c.divide-d.ensures.full.held.right

pub overflow_cast-total : goal.overflow_cast-total
overflow_cast-total c = let v = valid_reading _ _ c.read-r.ensures (accepted_zero c.read-r.result _ c.accepted.ensures c.in_ok-accepted.was) in let is = held_total _ _ c.divide-d.ensures.full.held _ c.total-total.ensures in let most : c.total-total.result ≤ c.read-r.result.m = subst⁻¹ (λ (x : ℕ). x ≤ c.read-r.result.m) is (given_le _ c.divide-d.result.holding.owner) in omega (arith, v.small)

pub write_sheet-requires : goal.write_sheet-requires
write_sheet-requires c = let v = valid_reading _ _ c.read-r.ensures (accepted_zero c.read-r.result _ c.accepted.ensures c.in_ok-accepted.was) in (omega (arith, c.if-buffer-long.false, c.length-long.ensures), v.small, v.few)

pub returns : goal.returns
returns c = let v = valid_reading _ _ c.read-r.ensures (accepted_zero c.read-r.result _ c.accepted.ensures c.in_ok-accepted.was) in let e = answer_wrote _ c.args.buffer.now _ c.read-r.ensures (accepted_zero c.read-r.result _ c.accepted.ensures c.in_ok-accepted.was) _ c.length-long.ensures c.if-buffer-long.false in record { answer = e; bytes = sheet_wrote _ c.args.buffer.now _ c.read-r.ensures v (accepted_zero c.read-r.result _ c.accepted.ensures c.in_ok-accepted.was) _ c.length-long.ensures c.if-buffer-long.false _ c.valuations_of-valuations.ensures _ c.present_of.ensures _ _ c.divide-d.result c.write_sheet.ensures c.divide-d.ensures (held_total _ _ c.divide-d.ensures.full.held _ c.total-total.ensures); told = build_told _ _ _ e }
